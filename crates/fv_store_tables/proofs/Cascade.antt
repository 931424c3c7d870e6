-- What a DELETE on `record` does to `object`.
use Rattle.std.proofs.Common.{◌≡◌, ◌≢◌, ◌⊎◌, inl, inr, ℕ, ℤ, zero, suc, Bool, true, false, not, List, [], ◌∷◌, ◌++◌, length, length-append, Option, Some, None, Ok, Err, Result, refl, sym, ap, subst, ◌∙◌, arith, cond}
use Rattle.std.specs.List.{list_any}
use Rattle.std.proofs.lemmas.Bool.{cases_Bool}
use Rattle.sqlite.specs.Order.{Row}
use Rattle.sqlite.specs.Tree.{Trees}
use Rattle.sqlite.specs.Edit.{edit_of, without_all, Applies, taken_by}
use Rattle.sqlite.specs.Rowids.TheVariants.{Given}
use Rattle.sqlite_schema.specs.declared.schema.Keys.TheVariants.{Enforced}
use Rattle.sqlite_schema.specs.declared.schema.Reference.{Reference}
use Rattle.sqlite_schema.specs.declared.schema.Action.TheVariants.{NoAction, Cascade}
use Rattle.sqlite_rules.specs.declared.action.Deed.TheVariants.{Delete}
use Rattle.sqlite_rules.specs.Action.{Work, Acts, ActsOn, Writes, Leads, works, pairs, loses, AreChildren}
use Rattle.sqlite_schema.specs.Names.{same_name}
use Rattle.sqlite_value.specs.Keys.{joined}
use Rattle.fv_store_tables.specs.Tables.{store_schema, kept_record, kept_object}

abbrev pub to_record : Reference
to_record = record { columns = 1 ∷ []; parent = Rattle.std.proofs.Common.codes "record"; parent_columns = Rattle.std.proofs.Common.codes "id" ∷ []; on_delete = Cascade; on_update = NoAction; is_deferred = false }

-- the one action: the rows of `object` whose record is taken out are deleted
abbrev pub cascade : List Row → Work
cascade olds = record { depth = 0; child = kept_object; ref = to_record; places = 1 ∷ []; order = record { digits = 0 }; deed = Delete; moves = pairs olds [] }

abbrev pub lost : List Row → Bool
lost olds = list_any (loses (record { digits = 0 }) (1 ∷ [])) (pairs olds [])

pub works_are : (olds : List Row) (b : Bool) → lost olds ≡ b → works store_schema Enforced 0 1 olds [] ≡ cond b (cascade olds ∷ []) []
unfolding same_name joined
works_are olds true is = rw is refl
works_are olds false is = rw is refl

-- where nothing is left to do, the trees are the last
settled : (n : ℕ) (db final : Trees) → Leads store_schema Enforced n db [] (Ok final) → db ≡ final
settled zero db final h = let e = h.1 in cc
settled (suc n) db final h = absurd (omega (arith, ap length h.2, length-append h.0 (h.1 ∷ [])))

zero_is_not_three : ◌≢◌ {A = ℕ} 0 3
zero_is_not_three e = cc

one_is_not_three : ◌≢◌ {A = ℕ} 1 3
one_is_not_three e = cc

-- what a DELETE of these rowids of `record` leaves
pub record Cascades (db final : Trees) (gone : List ℤ) : Type 0 where
  pub mid : Trees
  pub first : Applies store_schema Enforced db (edit_of db kept_record gone Given 0 []) mid
  pub children : List ℤ
  pub found : ((lost (taken_by db (edit_of db kept_record gone Given 0 [])) ≡ true) × AreChildren mid (cascade (taken_by db (edit_of db kept_record gone Given 0 []))) children)
      ⊎ ((lost (taken_by db (edit_of db kept_record gone Given 0 [])) ≡ false) × (children ≡ []))
  pub objects : final 3 ≡ without_all (mid 3) children
  pub others : (final 0 ≡ mid 0) × (final 1 ≡ mid 1)

module _ (db final : Trees) (gone : List ℤ) (mid : Trees) (first : Applies store_schema Enforced db (edit_of db kept_record gone Given 0 []) mid) where
  abbrev olds : List Row
  olds = taken_by db (edit_of db kept_record gone Given 0 [])

  acted : lost olds ≡ true → (n : ℕ) (ids : List ℤ) → AreChildren mid (cascade olds) ids → ActsOn store_schema Enforced (Leads store_schema Enforced n) mid (cascade olds) [] (Ok final) ids → Cascades db final gone
  unfolding same_name joined
  acted acts n [] are h =
      let same = settled n mid final h in
      record { mid = mid; first = first; children = []; found = inl (acts, are); objects = ap (λ (t : Trees). t 3) (sym same); others = (ap (λ (t : Trees). t 0) (sym same), ap (λ (t : Trees). t 1) (sym same)) }
  acted acts n (id ∷ ids) are (inl refused) = absurd (let e = refused.2 in cc)
  acted acts n (id ∷ ids) are (inr (inl big)) = absurd (let e = big.3 in cc)
  acted acts n (id ∷ ids) are (inr (inr went)) =
      let same = settled n went.0 final went.2 in
      let it = went.1 in
      record {
        mid = mid;
        first = first;
        children = id ∷ ids;
        found = inl (acts, are);
        objects = ap (λ (t : Trees). t 3) (sym same) ∙ it.rows;
        others = (ap (λ (t : Trees). t 0) (sym same) ∙ it.tables.0 zero_is_not_three, ap (λ (t : Trees). t 1) (sym same) ∙ it.tables.1.0 one_is_not_three);
      }

  -- the last of a list of one
  acted_last : lost olds ≡ true → (n : ℕ) (below : List Work) (w : Work) → cascade olds ∷ [] ≡ below ++ w ∷ [] → Acts store_schema Enforced (Leads store_schema Enforced n) mid w below (Ok final) → Cascades db final gone
  acted_last acts n [] w is h =
      let same : cascade olds ≡ w = cc in
      let it = subst (λ x. Acts store_schema Enforced (Leads store_schema Enforced n) mid x [] (Ok final)) (sym same) h in
      acted acts n it.0 it.1 it.2
  acted_last acts n (b ∷ below) w is h = absurd (omega (arith, ap length is, length-append below (w ∷ [])))

  led : lost olds ≡ true → (n : ℕ) → Leads store_schema Enforced n mid (cascade olds ∷ []) (Ok final) → Cascades db final gone
  led acts zero h = absurd (let e = h.0 in cc)
  led acts (suc n) h = acted_last acts n h.0 h.1 h.2 h.3

pub cascades : (db final : Trees) (gone : List ℤ) → Writes store_schema Enforced db (edit_of db kept_record gone Given 0 []) (Ok final) → Cascades db final gone
cascades db final gone (inl refused) = absurd (let e = refused.2 in cc)
cascades db final gone (inr (inl big)) = absurd (let e = big.3 in cc)
cascades db final gone (inr (inr went)) =
    let olds = taken_by db (edit_of db kept_record gone Given 0 []) in
    elim (cases_Bool (lost olds)) [
      | inl acts ↦ led db final gone went.0 went.1 acts went.2.0 (subst (λ ws. Leads store_schema Enforced went.2.0 went.0 ws (Ok final)) (works_are olds true acts) went.2.1)
      | inr none ↦
          let same = settled went.2.0 went.0 final (subst (λ ws. Leads store_schema Enforced went.2.0 went.0 ws (Ok final)) (works_are olds false none) went.2.1) in
          record { mid = went.0; first = went.1; children = []; found = inr (none, refl); objects = ap (λ (t : Trees). t 3) (sym same); others = (ap (λ (t : Trees). t 0) (sym same), ap (λ (t : Trees). t 1) (sym same)) }
    ]

-- no work where one row is put in, or replaces one: nothing acts on an update
pub works_put_one : (tree : ℕ) (gone news : List Row) (row : Row) → news ≡ row ∷ [] → works store_schema Enforced 0 tree gone news ≡ []
unfolding same_name joined
works_put_one tree gone news row is = rw is refl
