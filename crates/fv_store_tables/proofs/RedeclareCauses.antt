-- No rule of the database refuses an UPDATE of the row of `about`.
use Rattle.std.proofs.Common.{◌≡◌, inl, inr, ℕ, pos, List, [], ◌∷◌, Option, Some, None, Ok, Err, Result, IfErr, sym, ap, subst, refl, ◌∙◌}
use Rattle.sqlite.specs.declared.types.Value.TheVariants.{Null, Blob}
use Rattle.sqlite.specs.declared.error.Error.{Error}
use Rattle.sqlite.specs.Order.{Row}
use Rattle.sqlite.specs.Command.TheVariants.{Update}
use Rattle.sqlite.specs.Edit.{Edit, are_fresh, put_all, without_all, taken_by, IsRefused}
use Rattle.sqlite.specs.Query.{Query}
use Rattle.sqlite.specs.Term.{Term}
use Rattle.sqlite.specs.Does.{Does}
use Rattle.sqlite.specs.Rows.{Edited, Queried}
use Rattle.sqlite.specs.Tree.{Trees, with_tree}
use Rattle.sqlite.specs.Listing.{understood}
use Rattle.sqlite.specs.State.{State, mode_of, ExecutesInside}
use Rattle.sqlite.proofs.Callers.{statement_of}
use Rattle.sqlite_schema.specs.Names.{same_name}
use Rattle.sqlite_value.specs.Keys.{joined}
use Rattle.sqlite_schema.specs.declared.schema.Keys.TheVariants.{Enforced}
use Rattle.sqlite_schema.specs.declared.schema.Constraint.TheVariants.{Datatype, NotNull, Check, PrimaryKey, Unique, ForeignKey}
use Rattle.sqlite_rules.specs.declared.error.Refusal.{Refusal}
use Rattle.sqlite_rules.specs.declared.error.Refusal.TheVariants.{Violates, Mismatch, NoRowid, BadReference, TooDeep}
use Rattle.fv_store_tables.specs.Tables.{about, store_schema}
use Rattle.fv_store_tables.specs.Stands.{Maps, TableEntries, about_row, SpellsTables, TablesStand, IsOwned, tables_of}
use Rattle.fv_store_tables.specs.Causes.{IsExcused, IsShortAbout}
use Rattle.fv_store_tables.proofs.Texts.{RenewMeans, one_table, declare_text, declare_terms, declare_means}
use Rattle.fv_store_tables.proofs.Cascade.{works_put_one}
use Rattle.fv_store_tables.proofs.Inserts.{at_trees, in_place}
use Rattle.fv_store_tables.proofs.Objects.{owned}
use Rattle.fv_store_tables.proofs.Refusals.{no_sum, never_steps, run_cause}
use Rattle.fv_store_tables.proofs.Rules.{keys_apart}
use Rattle.fv_store_tables.proofs.Writes.{never_ok, never_false, never_edited, never_concluded, heads_apart, parts_apart}
use Rattle.fv_store_tables.proofs.CreateCauses.{about_checked, about_small}
use Rattle.fv_store_tables.proofs.Redeclares.{renewed, Renews, renewing, none_left, renew_writes}

module _ (terms : List Term) (given : Row) (v version : ℕ) (d declarations : List ℕ) (renews : Renews terms given (about_row v d) version declarations) where
  abbrev query : Query
  query = one_table 0 [] terms

  abbrev row : Row
  row = about_row version declarations

  renew_allowed : (db : Trees) (t : Maps) → SpellsTables (at_trees db) (about_row v d ∷ []) t → (why : Refusal) → IsRefused store_schema Enforced db (renewed version declarations) why → ⊥
  unfolding same_name joined
  renew_allowed db t spelled (Violates Datatype) w = never_false w
  renew_allowed db t spelled (Violates NotNull) w = never_false w
  renew_allowed db t spelled (Violates Check) w = never_false (sym (about_checked db version declarations) ∙ w)
  renew_allowed db t spelled (Violates PrimaryKey) w = never_false (sym (ap (λ rows. are_fresh rows (row ∷ [])) (none_left terms given v version d declarations renews db spelled.about)) ∙ w)
  renew_allowed db t spelled (Violates Unique) w =
      w (keys_apart (with_tree db 0 (put_all (without_all (db 0) (pos 1 ∷ [])) (row ∷ []))) (heads_apart db (about_row v d ∷ []) t spelled) (parts_apart db (about_row v d ∷ []) t spelled))
  renew_allowed db t spelled (Violates ForeignKey) w = w
  renew_allowed db t spelled Mismatch w = never_false w
  renew_allowed db t spelled NoRowid w = never_false w
  renew_allowed db t spelled BadReference w = never_false w
  renew_allowed db t spelled TooDeep w = w

  module _ (text : List ℕ) (means : RenewMeans text terms given) (short : IsShortAbout declarations) where
    module _ (s : State) (none : s.step_limit ≡ None) (t : Maps) (spelled : SpellsTables (at_trees s.now.trees) (about_row v d ∷ []) t) (has_owners : IsOwned t) where
      abbrev db : Trees
      db = s.now.trees

      never_queried : (stop : Option Error) → Queried s.step_limit (at_trees db) (record { lets = []; body = query }) given (Err stop) → ⊥
      never_queried None w = w
      never_queried (Some e) (inl w) = never_false (sym means.accepted ∙ w.1)
      never_queried (Some e) (inr (inl w)) = no_sum (db 0) w.1
      never_queried (Some e) (inr (inr w)) = never_steps s.step_limit none w.1

      never_renewed : (sql : List ℕ) (stop : Option Error) → Does s.step_limit (mode_of s) given (at_trees db) sql None (Update 0 (record { lets = []; body = query })) (Err stop) → ⊥
      never_renewed sql stop (inl (st, inl (st', queried, _), _)) = never_queried st' queried
      never_renewed sql stop (inl (st, inr (rows, answers, inl (st', edited, _)), _)) =
          never_edited db (renewed version declarations) (works_put_one 0 (taken_by db (renewed version declarations)) (row ∷ []) row refl) (renew_allowed db t spelled) (about_small version declarations short) st'
          (subst (λ (e : Edit). Edited store_schema Enforced db e (Err st')) (renewing terms given v version d declarations renews db spelled.about rows (answers.answer Null)) edited)
      never_renewed sql stop (inl (st, inr (rows, answers, inr (next, edited, wrong)), _)) = never_ok wrong
      never_renewed sql stop (inr (w, updated, concluded)) =
          never_concluded s about given w (row ∷ []) t (renew_writes terms given v version d declarations renews s.step_limit db t spelled w updated).0 has_owners stop concluded

    pub renew_cause : (old new : State) → old.step_limit ≡ None → (t : Maps) → SpellsTables old.now (about_row v d ∷ []) t → IsOwned t → (e : Error) → ExecutesInside 0 text given old new (Err e) → IsExcused old new e
    renew_cause old new none t spelled has_owners e ran refused =
        let command = Update 0 (record { lets = []; body = query }) in
        let source = statement_of text (understood store_schema text) in
        run_cause text given old new store_schema spelled.schema means.plain means.whole command means.is tt
        (λ stop does. never_renewed old none t (in_place old.now (about_row v d ∷ []) t spelled) has_owners source stop
        (subst (λ sc. Does old.step_limit (mode_of old) given (record old.now { schema = sc }) source None command (Err stop)) spelled.schema does)) e ran refused

pub declare_cause : (old new : State) → old.step_limit ≡ None → (declarations : List ℕ) (r : Result ℕ Error) → ExecutesInside 0 declare_text (Blob declarations ∷ []) old new r
    → IfErr r (λ e. (d : List ℕ) (m : TableEntries) → TablesStand old.now (about_row 2 d ∷ []) m → IsShortAbout declarations → IsExcused old new e)
declare_cause old new none declarations (Ok count) h = tt
declare_cause old new none declarations (Err e) h = λ d m stands short.
    renew_cause declare_terms (Blob declarations ∷ []) 2 2 d declarations refl declare_text (declare_means declarations) short old new none (tables_of m) stands (owned m) e h
