-- The text of a SELECT has no RETURNING, whatever the schema is.
use Rattle.std.proofs.Common.{◌≡◌, ◌+◌, ◌∙◌, ℕ, List, Bool, true, false, cond, None, Option, Ok, Err, sym, ap, refl}
use Rattle.sqlite.specs.Command.{Command}
use Rattle.sqlite.specs.Schema.{Schema}
use Rattle.sqlite.specs.Compile.{first, compiled, planned, meaning, returning, command, timed, small, with_command}
use Rattle.sqlite.specs.Listing.{understood, reads_listing, if_select, is_select, listing_schema}
use Rattle.sqlite_resolve.specs.Lowering.{Checked, and_then}
use Rattle.sqlite_resolve.specs.declared.compiled.Compiled.{Compiled}
use Rattle.sqlite_resolve.specs.declared.error.CompileError.TheVariants.{NoSuchTable}
use Rattle.sqlite_schema.specs.declared.command.Returning.{Returning}
use Rattle.sqlite_syntax.specs.declared.statement.Parsed.{Parsed}
use Rattle.sqlite_tied.specs.Compute.{everything}
use Rattle.fv_store_tables.specs.About.{about_query}
use Rattle.fv_store_tables.proofs.FirstTexts.{old_rows_text}
use Rattle.fv_store_tables.proofs.Texts.{find_text, objects_text}

abbrev Plan : Type 0
Plan = List (List ℕ) × (Command × Option Returning)

abbrev IsBare : Checked Parsed → Type 0
IsBare (Ok p) = (s : Schema) (base : ℕ) → returning s base p.statement ≡ Ok None
IsBare (Err e) = Unit {0}

plan_bare : (formats : List (List ℕ)) (shown : Checked (Option Returning)) (c : Checked Command) → shown ≡ Ok None
    → (plan : Plan) → and_then (and_then shown (λ o. and_then c (λ k. Ok (k, o)))) (λ found. Ok (formats, found)) ≡ Ok plan → plan.1.1 ≡ None
plan_bare formats (Err e) c none plan is = absurd cc
plan_bare formats (Ok o) (Err e) none plan is = absurd cc
plan_bare formats (Ok o) (Ok k) none plan is =
    let same : ◌≡◌ {A = Plan} (formats, (k, o)) plan = cc in
    let bare : o ≡ None = cc in
    sym (ap (λ (p : Plan). p.1.1) same) ∙ bare

planned_bare : (s : Schema) (p : Parsed) → ((base : ℕ) → returning s base p.statement ≡ Ok None) → (plan : Plan) → planned s p ≡ Ok plan → plan.1.1 ≡ None
unfolding planned meaning
planned_bare s p bare plan is =
    let formats = timed s p.formats p.statement in
    let base = small p.names + small formats in
    plan_bare formats (returning s base p.statement) (command s p.formats base p.statement) (bare base) plan is

listed_bare : (r : Checked Compiled) → ((k : Compiled) → r ≡ Ok k → k.returning ≡ None) → (c : Compiled) → if_select r ≡ Ok c → c.returning ≡ None
listed_bare (Err e) bare c is = absurd cc
listed_bare (Ok k) bare c is = go (is_select k.command) is
  where
    go : (b : Bool) → cond b (Ok k) (Err NoSuchTable) ≡ Ok c → c.returning ≡ None
    go true made = let same : k ≡ c = cc in bare c (ap Ok same)
    go false made = absurd cc

module _ (text : List ℕ) (bare : IsBare (first text)) where
  compiled_bare : (s : Schema) (c : Compiled) → compiled s text ≡ Ok c → c.returning ≡ None
  unfolding compiled
  compiled_bare s c is = go (first text) bare is
    where
      of_plan : (p : Parsed) (r : Checked Plan) → ((plan : Plan) → r ≡ Ok plan → plan.1.1 ≡ None) → and_then r (λ plan. Ok (with_command p plan)) ≡ Ok c → c.returning ≡ None
      of_plan p (Err e) bare made = absurd cc
      of_plan p (Ok plan) bare made = let same : with_command p plan ≡ c = cc in sym (ap (λ (k : Compiled). k.returning) same) ∙ bare plan refl

      go : (r : Checked Parsed) → IsBare r → and_then r (λ p. and_then (planned s p) (λ plan. Ok (with_command p plan))) ≡ Ok c → c.returning ≡ None
      go (Err e) bare made = absurd cc
      go (Ok p) bare made = of_plan p (planned s p) (planned_bare s p (bare s)) made

  text_bare : (s : Schema) (c : Compiled) → understood s text ≡ Ok c → c.returning ≡ None
  unfolding understood
  text_bare s c is = go (reads_listing s text) is
    where
      go : (b : Bool) → cond b (if_select (compiled listing_schema text)) (compiled s text) ≡ Ok c → c.returning ≡ None
      go true made = listed_bare (compiled listing_schema text) (compiled_bare listing_schema) c made
      go false made = compiled_bare s c made

first_read : IsBare (first about_query)
unfolding everything
first_read = λ s base. refl

pub read_bare : (s : Schema) (c : Compiled) → understood s about_query ≡ Ok c → c.returning ≡ None
read_bare = text_bare about_query first_read

first_objects : IsBare (first objects_text)
unfolding everything
first_objects = λ s base. refl

pub objects_bare : (s : Schema) (c : Compiled) → understood s objects_text ≡ Ok c → c.returning ≡ None
objects_bare = text_bare objects_text first_objects

first_find : IsBare (first find_text)
unfolding everything
first_find = λ s base. refl

pub find_bare : (s : Schema) (c : Compiled) → understood s find_text ≡ Ok c → c.returning ≡ None
find_bare = text_bare find_text first_find

first_old : IsBare (first old_rows_text)
unfolding everything
first_old = λ s base. refl

pub old_rows_bare : (s : Schema) (c : Compiled) → understood s old_rows_text ≡ Ok c → c.returning ≡ None
old_rows_bare = text_bare old_rows_text first_old
