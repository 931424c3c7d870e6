-- What a draft declares where nothing is wrong with it.
use Rattle.std.specs.Prelude.{◌≡◌, ℕ, List, map, zip}
use Rattle.std.specs.List.{AllByRecursion, AllZip}
use Rattle.fv_constraint.specs.Composed.{Planned}
use Rattle.fv_flatten.specs.Read.{IsReadTree}
use Rattle.fv_constraint_tree.specs.Trees.{Tree}
use Rattle.fv_datum.specs.Ascending.{IsAscending}
use Rattle.fv_declare_draft.specs.AllCascades.{cascades_in}
use Rattle.fv_declare_draft.specs.AllUses.{DraftUse, uses_in}
use Rattle.fv_declare_draft.specs.Drafts.{FormDraft, Drafted}
use Rattle.fv_declare_groups.specs.Grouping.{groups_in}
use Rattle.fv_declare_groups.specs.Numbered.{groups_named, type_ranks, valid_places}
use Rattle.fv_declare_schema.specs.Declarations.{Placed, Declarations, AreNumbered}
use Rattle.fv_declare_schema.specs.Places.{judged_at}
use Rattle.fv_declare_schema.specs.Groups.{Groups}
use Rattle.fv_message.specs.Table.{all_messages}
use Rattle.fv_declare_judging.specs.Types.{types_declared}

-- a form with its root's type
abbrev pub form_declared : FormDraft → List ℕ × List ℕ
form_declared f = (f.name, f.root)

-- a form with the numbers of its groups
abbrev pub form_grouped : Groups → FormDraft → List ℕ × List ℕ
form_grouped gs f = (f.name, groups_named gs f.groups)

-- a use with its tree is declared: it stands at its place and in its groups, and each of the tree's constraints is read there
pub record IsPlacedAs (gs : Groups) (u : DraftUse × Tree Planned) (o : Placed) : Type 0 where
  pub type : o.type ≡ u.0.type
  pub place : o.place ≡ u.0.place
  pub groups : o.groups ≡ groups_named gs u.0.draft.groups
  pub tree : IsReadTree (judged_at u.0.place) u.1 o.tree

-- all of a draft is declared, ts being the trees of its uses: types, the fields of each type, and forms by their names, the uses in the
-- order of their places, and the nodes of their trees numbered in preorder
pub record IsDeclared (d : Drafted) (ts : List (Tree Planned)) (ds : Declarations) : Type 0 where
  pub types : ds.types ≡ types_declared d
  pub types_ascend : IsAscending (map (λ t. t.0) ds.types)
  pub fields_ascend : AllByRecursion (λ t. IsAscending (map (λ f. f.0) t.1)) ds.types
  pub uses : AllZip (IsPlacedAs (groups_in d)) (zip (uses_in d.types) ts) ds.occurrences
  pub numbered : AreNumbered 0 ds.occurrences
  pub forms : ds.forms ≡ map (λ f. (f.name, f.root)) d.forms
  pub forms_ascend : IsAscending (map (λ f. f.0) ds.forms)
  pub groups : ds.groups ≡ groups_in d
  pub form_groups : ds.form_groups ≡ map (λ f. (f.name, groups_named (groups_in d) f.groups)) d.forms
  pub sequences : ds.sequences ≡ map (type_ranks (groups_in d)) d.types
  pub valid_places : ds.valid_places ≡ valid_places (groups_in d) (cascades_in d.types)
  pub messages : ds.messages ≡ all_messages d.messages
