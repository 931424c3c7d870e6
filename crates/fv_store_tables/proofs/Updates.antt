-- The edit that the UPDATE of an object's row makes where it finds one.
use Rattle.std.proofs.Common.{◌≡◌, ℤ, List, [], ◌∷◌, Option, sym, ap, subst, ◌∙◌}
use Rattle.sqlite.specs.declared.types.Value.TheVariants.{Int, Text}
use Rattle.sqlite.specs.Ops.{unary}
use Rattle.sqlite.specs.Kind.TheVariants.{Integer}
use Rattle.sqlite.specs.Order.{Row}
use Rattle.sqlite.specs.Cast.{cast}
use Rattle.sqlite.specs.Edit.{Edit, edit_of}
use Rattle.sqlite.specs.Rowids.TheVariants.{Given}
use Rattle.sqlite.specs.Query.{IsAnswer}
use Rattle.sqlite.specs.Program.{overlay}
use Rattle.sqlite.specs.Tree.{Trees}
use Rattle.sqlite_rules.specs.Lists.{Has}
use Rattle.sqlite_rules.specs.Calls.{ids_of}
use Rattle.fv_store_tables.specs.Tables.{kept_object}
use Rattle.fv_store_tables.specs.Rows.{HasRows}
use Rattle.fv_store_tables.specs.Stands.{ObjectTexts, ObjectKey, same_place, part_row, IsTextPart}
use Rattle.fv_store_tables.proofs.Texts.{set_terms, set_query, by_both}
use Rattle.fv_store_tables.proofs.RowEdits.{numbers_apart}
use Rattle.fv_store_tables.proofs.Layouts.{parts}
use Rattle.fv_store_tables.proofs.OneTable.{part_by_place, one_shown}
use Rattle.fv_store_tables.proofs.Inserts.{either, part_params}

pub cast_int : (n : ℤ) → cast Integer (Int n) ≡ Int n
unfolding unary
cast_int n = either _ (Int n)

-- these rowids are taken out of `object`, and these rows put in
abbrev pub exchange : List ℤ → List Row → Edit
exchange gone news = record { table = kept_object; gone = gone; news = news }

-- the edit that these rows of the query make
abbrev pub edit_by : Trees → List Row → Edit
edit_by db rows = edit_of db kept_object (ids_of rows) Given 1 rows

module _ (db : Trees) (m : ObjectKey → Option ObjectTexts) (at : ObjectKey) (it : ObjectTexts) (rows : List Row) (s : HasRows part_row IsTextPart (db 3) m) (a : IsAnswer set_query (overlay db []) (part_params at it) rows) where
  abbrev more : Row
  more = Text it.kind ∷ Text it.fields ∷ []

  pub edits_one : (n : ℤ) (p : ObjectTexts) → Has (db 3) (part_row n at p) → edit_by db rows ≡ exchange (n ∷ []) (part_row n at it ∷ [])
  edits_one n p there =
      let row = part_row n at p in
      let is = s.sound row there in
      let key = parts.keyed n is.number at is.key p is.value is.is in
      let shown = one_shown 3 by_both set_terms [] (overlay db []) (part_params at it) rows a s.apart row there (part_by_place m at more row is ∙ (parts.decides is.key at).1 (sym key))
      (λ other has passes.
      let o = s.sound other has in
      let same : o.key ≡ at = (parts.decides o.key at).0 (sym (part_by_place m at more other o) ∙ passes) in
      let has_it : Has (db 3) (part_row o.number at o.value) = subst (Has (db 3)) (o.is ∙ ap (λ k. part_row o.number k o.value) same) has in
      let number = s.once o.number n at o.value p has_it there in
      o.is ∙ ap (λ k. part_row o.number k o.value) same ∙ numbers_apart part_row IsTextPart same_place parts (db 3) m s o.number n at at o.value p has_it there number) in
      ap (edit_by db) shown ∙ ap (λ v. exchange (n ∷ []) ((v ∷ Text at.0 ∷ Text at.1 ∷ more) ∷ [])) (cast_int n)
