-- A batch that is refused at a part: the part by itself is refused, of what the parts before it leave.
use Rattle.std.proofs.Common.{◌≡◌, ℕ, suc, ◌+◌, List, [], ◌∷◌, take, Some, slice_get, Result, Ok, Err, refl, sym, ap, ◌∙◌, arith}
use Rattle.std.specs.Result.{result_map_both}
use Rattle.fv_command_fault.specs.declared.place.Absence.{Absence}
use Rattle.fv_command_laws.proofs.Faults.{err_same, none_there, part_at_fault}
use Rattle.fv_command_laws.proofs.Refused.{part_there, batch_cause}
use Rattle.fv_command_laws.specs.Absent.{refusal_of, IsPart}
use Rattle.fv_command_laws.specs.Faulty.{IsFaultyPart}
use Rattle.fv_command_laws.specs.Stops.{IsStop}
use Rattle.fv_declare_schema.specs.Declarations.{Declarations}
use Rattle.fv_engine_command.specs.Commands.{Part, batch}
use Rattle.fv_engine_machine.specs.Refusals.{refusal, made, part_fault, part_refusal, told_fault}
use Rattle.fv_engine_pending.specs.Parts.{part_made, parts_made, and_then, is_misshapen}
use Rattle.fv_engine_pending.specs.declared.fault.PartFault.{PartFault}
use Rattle.fv_engine_reply.specs.Answers.{part_refused}
use Rattle.fv_engine_reply.specs.declared.answer.Refusal.{Refusal}
use Rattle.fv_engine_reply.specs.declared.answer.Refusal.TheVariants as why
use Rattle.fv_model.specs.declared.fault.BundleFault.{BundleFault}
use Rattle.fv_store.specs.Records.{Records, Roots}
use Rattle.fv_bundle.specs.Types.{Declared}

-- parts of which the one of that number, counted from the first, can't be made of what those before it leave
pub record StopsAt (types : Declared) (forms : Roots) (k : ℕ) (ps : List Part) (m : Records) (n : ℕ) (e : PartFault) : Type 0 where
  pub number : ℕ
  pub part : Part
  pub left : Records
  pub counted : number + k ≡ n
  pub there : slice_get ps number ≡ Some part
  pub before : parts_made types forms k (take number ps) m ≡ Ok left
  pub failed : part_made types forms part left ≡ Err e

module _ (types : Declared) (forms : Roots) where
  pub stops : (k : ℕ) (ps : List Part) (m : Records) (n : ℕ) (e : PartFault) → parts_made types forms k ps m ≡ Err (n, e) → StopsAt types forms k ps m n e
  stops k [] m n e is = cc
  stops k (p ∷ ps) m n e is = go (part_made types forms p m) refl is (λ m' rest. stops (k + 1) ps m' n e rest)
    where
      go : (res : Result Records PartFault) → part_made types forms p m ≡ res
          → and_then (parts_made types forms (k + 1) ps) (result_map_both (λ x. x) (λ e. (k, e)) res) ≡ Err (n, e)
          → ((m' : Records) → parts_made types forms (k + 1) ps m' ≡ Err (n, e) → StopsAt types forms (k + 1) ps m' n e)
          → StopsAt types forms k (p ∷ ps) m n e
      go (Err f) got is later =
          let same = err_same (k, f) (n, e) is in
          let number : k ≡ n = ap (λ q. q.0) same in
          let fault : f ≡ e = ap (λ q. q.1) same in
          record { number = 0; part = p; left = m; counted = omega (arith, number); there = refl; before = refl; failed = got ∙ ap Err fault }
      go (Ok m') got is later =
          let at = later m' is in
          let counted = at.counted in
          record {
            number = suc at.number;
            part = at.part;
            left = at.left;
            counted = omega (arith, counted);
            there = at.there;
            before = ap (λ r. and_then (parts_made types forms (k + 1) (take at.number ps)) (result_map_both (λ x. x) (λ e. (k, e)) r)) got ∙ at.before;
            failed = at.failed;
          }

-- what is said of each part that can't be made for a fault that is told so, of the records that are left
abbrev SaysOfPart : Declarations → List Part → ℕ → Refusal → (Records → Part → Type 0) → Type 0
SaysOfPart ds ps n v Said =
    (left : Records) (p : Part) (e : PartFault) → slice_get ps n ≡ Some p → part_made ds.types ds.forms p left ≡ Err e → part_refusal e ≡ v → Said left p

module _ (ds : Declarations) (m : Records) (ps : List Part) (n : ℕ) (v : Refusal) (Said : Records → Part → Type 0) where
  stop_of : (e : PartFault) → SaysOfPart ds ps n v Said → part_refusal e ≡ v → StopsAt ds.types ds.forms 0 ps m n e → IsStop ds m ps n Said
  stop_of e says same at =
      let counted = at.counted in
      let number : at.number ≡ n = omega (arith, counted) in
      let there : slice_get ps n ≡ Some at.part = ap (slice_get ps) (sym number) ∙ at.there in
      record {
        part = at.part;
        there = there;
        left = at.left;
        before = ap (λ i. made ds (take i ps) m) (sym number) ∙ at.before;
        said = says at.left at.part e there at.failed same;
      }

  stopped : SaysOfPart ds ps n v Said → part_fault ds m (batch ps) ≡ Some (part_refused n v) → IsStop ds m ps n Said
  stopped says told = go (made ds ps m) refl told
    where
      go : (res : Result Records (ℕ × PartFault)) → made ds ps m ≡ res → told_fault part_refused res ≡ Some (part_refused n v) → IsStop ds m ps n Said
      go (Ok left) got t = cc
      go (Err f) got t =
          let number : f.0 ≡ n = cc in
          let same : part_refusal f.1 ≡ v = cc in
          stop_of f.1 says same (stops ds.types ds.forms 0 ps m n f.1 (got ∙ ap (λ i. Err (i, f.1)) number))

-- for what isn't there
pub part_lacks : (ds : Declarations) (m : Records) (ps : List Part) (n : ℕ) (w : Absence) → refusal ds m (batch ps) ≡ Some (part_refused n (refusal_of w))
    → IsStop ds m ps n (λ left p. IsPart ds left p w)
part_lacks ds m ps n w told =
    stopped ds m ps n (refusal_of w) (λ left p. IsPart ds left p w) (λ left p e there failed same. part_there ds left p e w failed same)
    (batch_cause ds m ps n (refusal_of w) told).1

-- for a bundle's fault
pub part_faulty : (ds : Declarations) (m : Records) (ps : List Part) (n : ℕ) (f : BundleFault) → refusal ds m (batch ps) ≡ Some (part_refused n (why.Bundle f))
    → IsStop ds m ps n (λ left p. IsFaultyPart ds left p f)
part_faulty ds m ps n f told =
    let cause = batch_cause ds m ps n (why.Bundle f) told in
    stopped ds m ps n (why.Bundle f) (λ left p. IsFaultyPart ds left p f)
    (λ left p e there failed same. part_at_fault ds left p e f (none_there (is_misshapen ds.types ds.forms) ps n p cause.0 there) failed same) cause.1
