-- What the DELETE of a record does.
use Rattle.std.proofs.Common.{◌≡◌, ◌≢◌, ◌⊎◌, inl, inr, ℕ, ℤ, Bool, List, [], ◌∷◌, map, bytes_eq, Option, Some, None, IsSome, Ok, Err, Result, refl, sym, ap, subst, ◌∙◌}
use Rattle.std.proofs.lemmas.Bool.{true≢false}
use Rattle.std.proofs.lemmas.Slice.Eq.{bytes_eq-Decides}
use Rattle.sqlite.specs.declared.types.Value.TheVariants.{Null, Text}
use Rattle.sqlite.specs.Order.{Row, column}
use Rattle.sqlite.specs.Command.TheVariants.{Delete}
use Rattle.sqlite.specs.Edit.{row_at, without_all}
use Rattle.sqlite.specs.Does.{Tally, Does}
use Rattle.sqlite.specs.Rows.{Task, Written, Deletes}
use Rattle.sqlite.specs.Query.{IsAnswer}
use Rattle.sqlite.specs.Program.{overlay}
use Rattle.sqlite_schema.specs.declared.schema.Keys.TheVariants.{Enforced}
use Rattle.sqlite.specs.Tree.{Trees, rowid}
use Rattle.sqlite.specs.Listing.{understood}
use Rattle.sqlite.specs.Effect.{Database}
use Rattle.sqlite.specs.State.{State, mode_of, Executes}
use Rattle.sqlite.proofs.Callers.{statement_of, runs_as}
use Rattle.sqlite_rules.specs.Lists.{Has}
use Rattle.sqlite_rules.specs.Calls.{ids_of}
use Rattle.sqlite_rules.proofs.PlaceLemmas.{row_at_is}
use Rattle.sqlite_rules.proofs.ProbeLemmas.{has_mapped}
use Rattle.fv_store_tables.specs.Tables.{store_schema, kept_record}
use Rattle.fv_store_tables.specs.Rows.{HasRows}
use Rattle.fv_store_tables.specs.Stands.{ObjectKey, Maps, same_place, head_row, part_row, IsTextHead, IsTextPart, SpellsTables, IsOwned, removed}
use Rattle.fv_store_tables.proofs.Texts.{remove_text, remove_query, remove_is, remove_plain, by_first}
use Rattle.fv_store_tables.proofs.RowEdits.{AreOf, has_itself, int_in, value_at, left_from, spells_left}
use Rattle.fv_store_tables.proofs.OneTable.{found, head_by_id}
use Rattle.fv_store_tables.proofs.Layouts.{heads, parts}
use Rattle.fv_store_tables.proofs.Cascade.{Cascades, cascades}
use Rattle.fv_store_tables.proofs.Children.{children_sound, children_complete, some_lost}

pub zero_is_not_one : ◌≢◌ {A = ℕ} 0 1
zero_is_not_one e = cc

pub three_is_not_one : ◌≢◌ {A = ℕ} 3 1
three_is_not_one e = cc

-- a part that gave a value did not stop on the way
pub went : {B E R : Type 0} {b : B} {Stops : E → Type 0} → ((stop : E) × Stops stop × (Ok b ≡ Err stop)) ⊎ R → R
went (inl stopped) = absurd (let e = stopped.2 in cc)
went (inr on) = on

pub same_value : {B E : Type 0} {a b : B} → ◌≡◌ {A = Result B E} (Ok a) (Ok b) → a ≡ b
same_value e = cc

no_some : {X P : Type 0} (o : Option X) → IsSome o → ((x : X) → o ≡ Some x → P) → P
no_some None h f = absurd (let e = h in cc)
no_some (Some x) h f = f x refl

module _ (db final : Trees) (t : Maps) (id : List ℕ) (hs : HasRows head_row IsTextHead (db 1) t.heads) (ps : HasRows part_row IsTextPart (db 3) t.parts) where
  abbrev is_head : List ℕ → Bool
  is_head k = bytes_eq k id

  abbrev is_part : ObjectKey → Bool
  is_part at = bytes_eq at.0 id

  abbrev olds : List ℤ → List Row
  olds ids = map (row_at (db 1)) ids

  -- each row that is taken out has this id
  taken_is : (ids : List ℤ) → AreOf head_row (db 1) is_head ids → (o : Row) → Has (olds ids) o → column o 1 ≡ Text id
  taken_is ids are o h =
      let i = has_mapped (row_at (db 1)) ids o h in
      let r = are.sound i.0 i.1 in
      let row = head_row i.0 r.0 r.1 in
      let is : o ≡ row = i.2 ∙ row_at_is (db 1) i.0 row hs.apart r.2 (has_itself i.0 row refl) in
      ap (λ (x : Row). column x 1) is ∙ ap Text ((bytes_eq-Decides r.0 id).0 r.3)

  -- the children are the objects of this id
  children : IsOwned t → (ids : List ℤ) → AreOf head_row (db 1) is_head ids → (c : Cascades db final ids) → AreOf part_row (db 3) is_part c.children
  children owned [] are c = elim c.found [
    | inl acts ↦ absurd (true≢false (sym acts.0))
    | inr none ↦ record {
      sound = λ i h. absurd (subst (λ ids. Has ids i) none.1 h);
      complete = λ i k v has is.
          no_some (t.heads k.0) (owned k v (value_at part_row IsTextPart same_place parts (db 3) t.parts ps i k v has)) (λ h some. let there = hs.complete k.0 h some in absurd (are.complete there.0 k.0 h there.1 is));
    }
  ]
  children owned (i ∷ ids) are c =
      let first = taken_is (i ∷ ids) are (row_at (db 1) i) (inl refl) in
      let same = c.first.tables.1.1.0 three_is_not_one in
      let each = taken_is (i ∷ ids) are in
      elim c.found [
        | inl acts ↦ record {
          sound = λ n h.
              let r = children_sound c.mid (olds (i ∷ ids)) id c.children each
              (λ row there. let it = ps.sound row (subst (λ l. Has l row) same there) in (it.key.0, ap (λ (x : Row). column x 1) it.is)) acts.1 n h in
              let there : Has (db 3) r.0 = subst (λ l. Has l r.0) same r.1 in
              let it = ps.sound r.0 there in
              let number : it.number ≡ n = int_in it.number n (sym (ap rowid it.is) ∙ r.3) in
              let words : Text it.key.0 ≡ Text id = sym (ap (λ (x : Row). column x 1) it.is) ∙ r.2 in
              let key : it.key.0 ≡ id = cc in
              (it.key, it.value, subst (Has (db 3)) (it.is ∙ ap (λ j. part_row j it.key it.value) number) there, (bytes_eq-Decides it.key.0 id).1 key);
          complete = λ n k v has is.
              children_complete c.mid (row_at (db 1) i) (olds ids) id c.children each acts.1 (part_row n k v) n (subst (λ l. Has l (part_row n k v)) (sym same) has) (ap Text ((bytes_eq-Decides k.0 id).0 is)) refl;
        }
        | inr none ↦ absurd (true≢false (sym (some_lost (row_at (db 1) i) (olds ids) id first) ∙ none.0))
      ]

abbrev at_trees : Trees → Database
at_trees db = record { schema = store_schema; trees = db }

module _ (limit : Option ℕ) (db : Trees) (id : List ℕ) (d : List Row) (t : Maps) (spelled : SpellsTables (at_trees db) d t) where
  abbrev pub gone_head : List ℕ → Bool
  gone_head k = bytes_eq k id

  pub are_heads : (rows : List Row) → IsAnswer remove_query (overlay db []) (Text id ∷ []) rows → AreOf head_row (db 1) gone_head (ids_of rows)
  are_heads rows a = found head_row IsTextHead bytes_eq heads 1 db refl t.heads spelled.heads by_first (Text id ∷ []) gone_head (head_by_id t.heads id []) rows a

  -- what is left after the cascade
  pub cascaded : IsOwned t → (final : Trees) (ids : List ℤ) → AreOf head_row (db 1) gone_head ids → Cascades db final ids → SpellsTables (at_trees final) d (removed id t)
  cascaded owned final ids are c =
      let gone_part = λ (p : ObjectKey). bytes_eq p.0 id in
      let of = children db final t id spelled.heads spelled.parts owned ids are c in
      record {
        schema = refl;
        about = c.others.0 ∙ c.first.tables.0 zero_is_not_one ∙ spelled.about;
        heads = subst (λ rows. HasRows head_row IsTextHead rows (removed id t).heads) (sym (c.others.1 ∙ c.first.rows)) (spells_left head_row IsTextHead bytes_eq heads (db 1) t.heads spelled.heads gone_head ids are);
        parts = subst (λ rows. HasRows part_row IsTextPart rows (removed id t).parts) (sym (c.objects ∙ ap (λ rows. without_all rows c.children) (c.first.tables.1.1.0 three_is_not_one)))
            (spells_left part_row IsTextPart same_place parts (db 3) t.parts spelled.parts gone_part c.children of);
      }

  abbrev pub remove_task : Task
  remove_task = record { limit = limit; keys = Enforced; schema = store_schema; table = kept_record; params = Text id ∷ [] }

  -- the rows of the record and of its objects are taken out
  pub remove_writes : IsOwned t → (w : Written) → Deletes remove_task (record { lets = []; body = remove_query }) db (Ok w)
      → SpellsTables (at_trees w.trees) d (removed id t) × ((row : Row) → Has (w.trees 1) row → Has (db 1) row) × ((row : Row) → Has (w.trees 3) row → Has (db 3) row)
  remove_writes owned w h =
      let given = went h in
      let written = went given.2 in
      let trees : w.trees ≡ written.0 = ap (λ (it : Written). it.trees) (same_value written.2) in
      let ids = ids_of given.0 in
      let c = cascades db written.0 ids written.1 in
      subst (λ (ts : Trees). SpellsTables (at_trees ts) d (removed id t) × ((row : Row) → Has (ts 1) row → Has (db 1) row) × ((row : Row) → Has (ts 3) row → Has (db 3) row)) (sym trees) (
        cascaded owned written.0 ids (are_heads given.0 (given.1.answer Null)) c,
        λ row there. (left_from ids (db 1) row (subst (λ rs. Has rs row) (c.others.1 ∙ c.first.rows) there)).0,
        λ row there. (left_from c.children (db 3) row (subst (λ rs. Has rs row) (c.objects ∙ ap (λ rows. without_all rows c.children) (c.first.tables.1.1.0 three_is_not_one)) there)).0,
      )

module _ (old new : State) (id : List ℕ) (count : ℕ) (d : List Row) (t : Maps) (spelled : SpellsTables old.now d t) (owned : IsOwned t) (h : Executes remove_text (Text id ∷ []) old new (Ok count)) where
  pub removes : SpellsTables new.now d (removed id t) × ((row : Row) → Has (new.now.trees 1) row → Has (old.now.trees 1) row) × ((row : Row) → Has (new.now.trees 3) row → Has (old.now.trees 3) row)
  removes =
      let params = Text id ∷ [] in
      let command = Delete 1 (record { lets = []; body = remove_query }) in
      let w = runs_as remove_text params old new store_schema spelled.schema command remove_is remove_plain count h in
      let text = statement_of remove_text (understood store_schema remove_text) in
      let done = went (subst (λ s. Does old.step_limit (mode_of old) params (record old.now { schema = s }) text None command (Ok (w.tally, new.now))) spelled.schema w.changed) in
      let now : new.now ≡ at_trees done.0.trees = ap (λ (p : Tally × Database). p.1) (same_value (went (went done.2).2).2) in
      let here : SpellsTables (at_trees old.now.trees) d t = record { schema = refl; about = spelled.about; heads = spelled.heads; parts = spelled.parts } in
      let wrote = remove_writes old.step_limit old.now.trees id d t here owned done.0 done.1 in
      subst (λ b. SpellsTables b d (removed id t) × ((row : Row) → Has (b.trees 1) row → Has (old.now.trees 1) row) × ((row : Row) → Has (b.trees 3) row → Has (old.now.trees 3) row)) (sym now) wrote
