use Rattle.std.proofs.Common.{sym, ap}
use Rattle.std.specs.Fmt.{digits}
use Rattle.fv_store_tables.specs.Inserting.{insert_of}
use Rattle.fv_store_tables.proofs.NewObjects.{run_of_one}
use Rattle.fv_store_tables.proofs.inserting.insert_text.Goals as goal

pub returns-in-16 : goal.returns-in-16
unfolding digits
returns-in-16 c run = ap insert_of (sym c.in-16.is)

pub returns-in-8 : goal.returns-in-8
unfolding digits
returns-in-8 c run = ap insert_of (sym c.in-8.is)

pub returns-in-4 : goal.returns-in-4
unfolding digits
returns-in-4 c run = ap insert_of (sym c.in-4.is)

pub returns-in-2 : goal.returns-in-2
unfolding digits
returns-in-2 c run = ap insert_of (sym c.in-2.is)

pub returns-in_default : goal.returns-in_default
unfolding digits
returns-in_default c run = ap insert_of (sym (run_of_one c.args.rows run (assumption c.in_default) (assumption c.in_default) (assumption c.in_default) (assumption c.in_default)))
