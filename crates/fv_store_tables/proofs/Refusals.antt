-- Why the database refuses a statement whose text is known.
use Rattle.std.proofs.Common.{◌≡◌, ◌⊎◌, ◌&&◌, ◌||◌, is_some, refl, Some, IsErrAnd, Result, IfErr, true, ◌∙◌, inl, inr, ℕ, List, length, append-nil, false, None, Option, Ok, Err, IsSome, Any, sym, ap, subst, subst₂}
use Rattle.sqlite.specs.Command.TheVariants.{Select, Rows}
use Rattle.sqlite.specs.Order.{Row}
use Rattle.sqlite.specs.Schema.{Schema}
use Rattle.sqlite.specs.Command.{Command}
use Rattle.sqlite.specs.Effect.{RefusesToRead, is_query}
use Rattle.sqlite.specs.Does.{Does}
use Rattle.sqlite.specs.Calls.{IsWrite}
use Rattle.sqlite_schema.specs.declared.command.Returning.{Returning}
use Rattle.sqlite.specs.Listing.{understood, reads_listing, IsSourceOf}
use Rattle.sqlite.specs.State.{State, Fails, FailsToQuery, IsNotRun, IsUnchanged, IsMisplaced, Escapes, EndsScope, ExecutesIn, ExecutesInside, mode_of, text_of, shows_rows, is_pragma}
use Rattle.sqlite.specs.declared.error.Error.{Error}
use Rattle.sqlite.proofs.Callers.{IsPlain, command_of, statement_of}
use Rattle.sqlite_trees.specs.declared.error.StoreError.TheVariants.{OutOfMemory, Io, Corrupt, Full, Broken, Unstorable}
use Rattle.sqlite_resolve.specs.declared.compiled.Compiled.{Compiled}
use Rattle.fv_store_tables.specs.Causes.{HasFailed, IsRefusal}
use Rattle.fv_store_tables.proofs.Texts.{IsWhole}

-- a failure of the store has its cause
pub failed : (P : Type 0) (old new : State) (e : Error) → (P → ⊥) → Fails old new P e → IsRefusal e → HasFailed old new
failed P old new e small (OutOfMemory, is, why, back, told) refused = absurd (refused is)
failed P old new e small (Io, is, why, back, told) refused = inl why
failed P old new e small (Corrupt, is, why, back, told) refused = inl why
failed P old new e small (Full, is, why, back, told) refused = inl why
failed P old new e small (Broken, is, why, back, told) refused = inr why
failed P old new e small (Unstorable, is, why, back, told) refused = absurd (small why)

shows_nothing : (command : Command) → IsWrite command → (is_query command || (true && (is_pragma command || is_some {T = Returning} None))) ≡ false
shows_nothing (Select q names) write = absurd write
shows_nothing (Rows values width names) write = absurd write
shows_nothing _ write = refl

never_misplaced : (s : State) (command : Command) (e : Error) → IsWrite command → IsMisplaced s command e → ⊥
never_misplaced s command e write (inl (_, inl (is, _))) = subst IsWrite is write
never_misplaced s command e write (inl (_, inr (inl is, _))) = subst IsWrite is write
never_misplaced s command e write (inl (_, inr (inr is, _))) = subst IsWrite is write
never_misplaced s command e write (inr (_, _, inl is, _)) = subst IsWrite is write
never_misplaced s command e write (inr (_, _, inr is, _)) = subst IsWrite is write

never_escapes : (s : State) (command : Command) → IsWrite command → Escapes 0 s command → ⊥
never_escapes s command write (inl (inl is)) = subst IsWrite is write
never_escapes s command write (inl (inr is)) = subst IsWrite is write
never_escapes s command write (inr (_, inl is, _)) = subst IsWrite is write
never_escapes s command write (inr (_, inr is, _)) = subst IsWrite is write

module _ (old new : State) (May : Type 0) (text : List ℕ) (params : Row) (command : Command) (e : Error) where
  abbrev Stops : Option Error → Type 0
  Stops stop = Does old.step_limit (mode_of old) params old.now text None command (Err stop)

  written : IsWrite command → ((stop : Option Error) → Stops stop → ⊥) → ((IsMisplaced old command e ⊎ (May × Stops (Some e))) × IsUnchanged old new) ⊎ Fails old new (Stops None) e
      → IsRefusal e → HasFailed old new
  written write never (inl (inl misplaced, _)) refused = absurd (never_misplaced old command e write misplaced)
  written write never (inl (inr (_, stops), _)) refused = absurd (never (Some e) stops)
  written write never (inr fails) refused = failed (Stops None) old new e (never None) fails refused

module _ (sql : List ℕ) (params : Row) (old new : State) (schema : Schema) (has : old.now.schema ≡ schema) (plain : IsPlain (understood schema sql))
    (whole : IsWhole sql (length params) (understood schema sql)) where
  known : (c : Compiled) → understood old.now.schema sql ≡ Ok c → understood schema sql ≡ Ok c
  known c is = ap (λ s. understood s sql) (sym has) ∙ is

  pub not_run : (e : Error) → IsNotRun old new sql params e → IsRefusal e → HasFailed old new
  unfolding IsNotRun
  not_run e (inr fails) refused = failed ⊥ old new e (λ never. never) fails refused
  not_run e (inl (inl (fault, is, _), _)) refused = absurd (subst IsPlain (ap (λ s. understood s sql) (sym has) ∙ is) plain)
  not_run e (inl (inr (c, is, inl (longer, _)), _)) refused = absurd (longer (subst (IsWhole sql (length params)) (known c is) whole).0)
  not_run e (inl (inr (c, is, inr (inl (count, _))), _)) refused = absurd (count (subst (IsWhole sql (length params)) (known c is) whole).1)
  not_run e (inl (inr (c, is, inr (inr (formats, _))), _)) refused = absurd (formats (subst IsPlain (known c is) plain).1)

  -- a query that can be read
  pub query_cause : (command : Command) → command_of (understood schema sql) ≡ command → reads_listing schema sql ≡ false → ((e : Error) → RefusesToRead old.step_limit command old.now params e → ⊥)
      → (e : Error) → FailsToQuery sql params old new e → IsRefusal e → HasFailed old new
  unfolding FailsToQuery
  query_cause command is unlisted never e (inl h) refused = not_run e h refused
  query_cause command is unlisted never e (inr h) refused =
      let same = sym (known h.0 h.1.is) in
      let bare = subst IsPlain (sym same) plain in
      let it = rw (bare.0, bare.1, append-nil params) at h.2 in
      let db : it.0 ≡ old.now = subst (λ b. IsSourceOf b old.now it.0) (ap (λ s. reads_listing s sql) has ∙ unlisted) it.1 in
      absurd (never e (subst₂ (λ k d. RefusesToRead old.step_limit k d params e) (ap command_of same ∙ is) db it.2))

  -- a write that no rule refuses
  pub run_cause : (command : Command) → command_of (understood schema sql) ≡ command → IsWrite command
      → ((stop : Option Error) → Does old.step_limit (mode_of old) params old.now (statement_of sql (understood schema sql)) None command (Err stop) → ⊥)
      → (e : Error) → ExecutesInside 0 sql params old new (Err e) → IsRefusal e → HasFailed old new
  unfolding ExecutesIn EndsScope
  run_cause command is write never e (inl (inl lost, _)) refused = not_run e lost refused
  run_cause command is write never e (inl (inr (c, it, ran), _)) refused =
      let same = sym (known c it.is) in
      let bare = subst IsPlain (sym same) plain in
      let made = ap command_of same ∙ is in
      let writes : IsWrite c.command = subst IsWrite (sym made) write in
      let stops : (stop : Option Error) → Does old.step_limit (mode_of old) params old.now (text_of sql c) None c.command (Err stop) → ⊥ =
      λ stop does. never stop (subst₂ (λ k t. Does old.step_limit (mode_of old) params old.now t None k (Err stop)) made (ap (statement_of sql) same) does) in
      let mute : shows_rows false c ≡ false = rw bare.0 (shows_nothing c.command writes) in
      let it = rw (bare.0, bare.1, append-nil params) at (rw mute at ran) in
      written old new _ (text_of sql c) params c.command e writes stops it refused
  run_cause command is write never e (inr ((c, it, escapes), _, _)) refused = absurd (never_escapes old c.command (subst IsWrite (sym (ap command_of (sym (known c it.is)) ∙ is)) write) escapes)

-- a refusal that is handed on
pub handed_on : {X E : Type 0} (P : E → Type 0) (r : Result X E) (e : E) → IsErrAnd r (λ f. f ≡ e) → P e → IfErr r P
handed_on P (Ok x) e is h = absurd is
handed_on P (Err f) e is h = subst P (sym is) h

-- a query with no SUM over one table overflows in none
pub no_sum : {X : Type 0} (xs : List X) → ⊥ ⊎ Any (λ x. ⊥) xs → ⊥
no_sum xs (inl never) = never
no_sum xs (inr some) = some.4

pub never_steps : (o : Option ℕ) → o ≡ None → IsSome o → ⊥
never_steps o none some = let wrong = subst IsSome none some in cc
