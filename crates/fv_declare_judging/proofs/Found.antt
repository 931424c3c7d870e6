-- What holds of a draft without fault: its roots are found.
use Rattle.std.proofs.Common.{◌≡◌, ℕ, ◌+◌, ◌<◌, List, [], ◌∷◌, length, get_or, drop, map, Bool, true, false, not, cond, ◌||◌, nat_lt, Option, Some, None, option_map, unwrap_or, is_some, slice_get, position, bytes_eq, refl, sym, ap, ◌∙◌, arith}
use Rattle.std.specs.List.{list_any, prefix_len}
use Rattle.std.proofs.lemmas.Grind.{common_steps}
use Rattle.std.proofs.lemmas.List.Quantifiers.{position-Some}
use Rattle.std.proofs.lemmas.Map.Made.{is_some-lookup}
use Rattle.std.proofs.lemmas.Option.{unwrap_or-slice_get}
use Rattle.std.proofs.lemmas.Slice.Eq.{bytes_eq-Decides}
use Rattle.fv_datum.specs.Lookup.{at_name}
use Rattle.fv_bundle.specs.Types.{DeclaredFields, Declared, number_of_type, name_at, has_unknown_type}
use Rattle.fv_constraint.specs.Meanings.{composes_unknown}
use Rattle.fv_datum.specs.Outcomes.{first}
use Rattle.fv_declare_draft.specs.Drafts as spec
use Rattle.fv_declare_judging.specs.Conditions.{unknown_constraint, unknown_name, unknown_root}
use Rattle.fv_declare_judging.specs.Judging.{name_conditions}
use Rattle.fv_declare_judging.specs.Types.{types_declared}
use Rattle.fv_declare_judging.specs.Naming.{bad_name}
use Rattle.fv_declare_judging.specs.declared.fault.DeclFault.TheVariants.{BadName, UnknownName}
use Rattle.fv_declare_draft.specs.DraftViews.{form_view}
use Rattle.fv_declare_draft.specs.declared.draft.FormDraft.{FormDraft}
use Rattle.fv_declare_judging.proofs.Anys.{form_turn}
use Rattle.fv_datum.proofs.Bools.{or_left, or_right}

-- ---- the first fault is none

not_here : {E : Type 0} (b : Bool) (e : E) (rest : Option E) → cond b (Some e) rest ≡ None → b ≡ false
not_here true e rest h = cc
not_here false e rest h = refl

nor_later : {E : Type 0} (b : Bool) (e : E) (rest : Option E) → cond b (Some e) rest ≡ None → rest ≡ None
nor_later true e rest h = cc
nor_later false e rest h = h

pub good_names : (d : spec.Drafted) → first (name_conditions d) ≡ None → unknown_name d ≡ false
good_names d e = not_here (unknown_name d) UnknownName None (nor_later (bad_name d) BadName _ e)

pub names_good : (d : spec.Drafted) → first (name_conditions d) ≡ None → bad_name d ≡ false
names_good d e = not_here (bad_name d) BadName _ e

-- ---- the roots

place : (b : Bool) (m n : ℕ) → nat_lt (cond (not b) (1 + m) 0) (1 + n) ≡ (b || nat_lt m n)
place true m n = grind (arith, common_steps)
place false m n = grind (arith, common_steps)

at_some : (b : Bool) (n : ℕ) → is_some (cond b (Some n) None) ≡ b
at_some true n = refl
at_some false n = refl

stops : {X : Type 0} (p : X → Bool) (xs : List X) → nat_lt (prefix_len (λ x. not (p x)) xs) (length xs) ≡ list_any p xs
stops p [] = refl
stops p (x ∷ xs) = grind (arith, common_steps, place (p x) (prefix_len (λ y. not (p y)) xs) (length xs), stops p xs)

is_some-position : {X : Type 0} (p : X → Bool) (xs : List X) → is_some (position p xs) ≡ list_any p xs
is_some-position p xs = at_some (nat_lt (prefix_len (λ x. not (p x)) xs) (length xs)) _ ∙ stops p xs

pub any_map : {X Y : Type 0} (p : Y → Bool) (f : X → Y) (xs : List X) → list_any p (map f xs) ≡ list_any (λ x. p (f x)) xs
any_map p f [] = refl
any_map p f (x ∷ xs) = ap (λ b. p (f x) || b) (any_map p f xs)

-- a name that stands among the types has a number
numbered : (ts : Declared) (name : List ℕ) → is_some (number_of_type ts name) ≡ is_some (at_name name ts)
numbered ts name = is_some-position (λ t. bytes_eq name t.0) ts ∙ sym (any_map (bytes_eq name) (λ t. t.0) ts) ∙ sym (is_some-lookup (bytes_eq name) ts)

module _ (d : spec.Drafted) (good : first (name_conditions d) ≡ None) where
  -- no condition of unknown names holds
  all_known : ((unknown_constraint d || composes_unknown d.definitions) || has_unknown_type (types_declared d)) || unknown_root (types_declared d) d.forms ≡ false
  unfolding unknown_name
  all_known = let all : unknown_name d ≡ false = good_names d good in all

  pub roots_known : unknown_root (types_declared d) d.forms ≡ false
  roots_known = or_right ((unknown_constraint d || composes_unknown d.definitions) || has_unknown_type (types_declared d)) _ all_known

  constraints_known : unknown_constraint d || composes_unknown d.definitions ≡ false
  constraints_known = or_left _ (has_unknown_type (types_declared d)) (or_left _ (unknown_root (types_declared d) d.forms) all_known)

  pub composed_known : composes_unknown d.definitions ≡ false
  composed_known = or_right (unknown_constraint d) _ constraints_known

  pub used_known : unknown_constraint d ≡ false
  used_known = or_left _ (composes_unknown d.definitions) constraints_known

pub known_here : (ts : Declared) (fs : List FormDraft) (i : ℕ) (f : FormDraft) → i < length fs → f ≡ get_or fs i f → unknown_root ts (map form_view (drop i fs)) ≡ false → not (is_some (number_of_type ts f.root.now)) ≡ false
known_here ts fs i f h is e = ap not (numbered ts f.root.now) ∙ or_left _ _ (sym (form_turn (λ g. not (is_some (at_name g.root ts))) fs i f h is) ∙ e)

pub known_later : (ts : Declared) (fs : List FormDraft) (i : ℕ) (f : FormDraft) → i < length fs → f ≡ get_or fs i f → unknown_root ts (map form_view (drop i fs)) ≡ false → unknown_root ts (map form_view (drop (i + 1) fs)) ≡ false
known_later ts fs i f h is e = or_right (not (is_some (at_name f.root.now ts))) _ (sym (form_turn (λ g. not (is_some (at_name g.root ts))) fs i f h is) ∙ e)

named_some : (o : Option (List ℕ × DeclaredFields)) (d : List ℕ × DeclaredFields) → unwrap_or (option_map (λ t. t.0) o) d.0 ≡ (unwrap_or o d).0
named_some None d = refl
named_some (Some t) d = refl

-- the type of the number that a name has is of that name
pub found_name : (ts : Declared) (name : List ℕ) (n : ℕ) → number_of_type ts name ≡ Some n → name_at ts n ≡ name
found_name ts name n e =
    let none : List ℕ × DeclaredFields = ([], []) in
    let found = position-Some (λ t. bytes_eq name t.0) ts n none e in
    named_some (slice_get ts n) none ∙ ap (λ t. t.0) (unwrap_or-slice_get ts n none) ∙ sym ((bytes_eq-Decides name (get_or ts n none).0).0 found.1)
