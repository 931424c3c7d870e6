-- The names of faults.
use Rattle.std.specs.Prelude.{ℕ, List, codes}
use Rattle.fv_engine_pending.specs.declared.fault.PartFault.{PartFault}
use Rattle.fv_engine_pending.specs.declared.fault.PartFault.TheVariants.{UnknownForm, Bundle, NoRecord, Memory}
use Rattle.fv_engine_pending.specs.declared.rejudging.RejudgeFault.{RejudgeFault}
use Rattle.fv_engine_pending.specs.declared.rejudging.RejudgeFault.TheVariants as rejudge

-- the name of a fault of a part
abbrev pub part_fault_name : PartFault → List ℕ
part_fault_name UnknownForm = codes "UnknownForm"
part_fault_name (Bundle fault) = codes "Bundle"
part_fault_name NoRecord = codes "NoRecord"
part_fault_name Memory = codes "Memory"

-- the name of why records aren't all judged
abbrev pub rejudge_fault_name : RejudgeFault → List ℕ
rejudge_fault_name (rejudge.Unfit id why) = codes "Unfit"
rejudge_fault_name rejudge.TooManyVisits = codes "TooManyVisits"
rejudge_fault_name rejudge.Store = codes "Store"
rejudge_fault_name rejudge.Memory = codes "Memory"
