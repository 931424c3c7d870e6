-- Nothing is narrowed exactly where all is there.
use Rattle.std.proofs.Common.{◌≡◌, ℕ, List, [], ◌∷◌, Bool, true, false, if◌then◌else◌, Option, Some, None, Result, Ok, Err, IfOk, bytes_eq, refl, sym, ap}
use Rattle.std.specs.List.{AllByRecursion}
use Rattle.std.proofs.lemmas.List.Elements.{recursion_from_All}
use Rattle.std.proofs.lemmas.Slice.Eq.{bytes_eq-Decides}
use Rattle.fv_datum.proofs.Lists.{each_of}
use Rattle.fv_datum.specs.Lookup.{at_name}
use Rattle.fv_bundle.specs.Types.{TypeUse, DeclaredFields, Declared, AreApart, FieldsApart}
use Rattle.fv_widening.specs.Narrowed.{found_in, use_narrowed, field_narrowed, fields_narrowed, type_narrowed, named_narrowed, types_narrowed, root_narrowed, form_narrowed, forms_narrowed, narrowed}
use Rattle.fv_widening.specs.Same.{is_same}
use Rattle.fv_widening.specs.Widens.{HasAll, HasTypes, Forms, Widens}
use Rattle.fv_widening.specs.declared.narrowing.Narrowed.TheVariants as is
use Rattle.fv_widening.proofs.Counted.{both_none, all_fine, none_found, found_each}
use Rattle.fv_widening.proofs.Sames.{same_use, use_same}

unless_true : {P : Type 0} (b : Bool) (p : P) → found_in (if b then None else Some p) ≡ [] → b ≡ true
unless_true true p none = refl
unless_true false p none = cc

-- ---- the fields of a type

use_there : (type number : ℕ) (u : TypeUse) (there : Option TypeUse) → found_in (use_narrowed type number u there) ≡ [] → there ≡ Some u
use_there type number u None none = cc
use_there type number u (Some v) none = ap (λ w. Some w) (sym (same_use u v (unless_true (is_same u v) (is.Use type number) none)))

fields_there : (type : ℕ) (old there : DeclaredFields) → fields_narrowed type old there ≡ [] → HasAll old there
fields_there type old there = all_fine (field_narrowed type there) (λ name u. at_name name there ≡ Some u) (λ n f none. use_there type n f.1 (at_name f.0 there) none) 0 old

fields_none : (type : ℕ) (old there : DeclaredFields) → AreApart old → HasAll old there → fields_narrowed type old there ≡ []
fields_none type old there apart has =
    none_found (field_narrowed type there) (λ f. at_name f.0 there ≡ Some f.1) (λ n f is. rw (is, use_same f.1) refl) 0 old
    (each_of (λ f. at_name f.0 old ≡ Some f.1) (λ f. at_name f.0 there ≡ Some f.1) old (λ f found. has f.0 f.1 found) (found_each old apart))

-- ---- the types

abbrev IsThere : Declared → List ℕ → DeclaredFields → Type 0
IsThere new type fields = (more : DeclaredFields) × (at_name type new ≡ Some more) × HasAll fields more

type_there : (new : Declared) (number : ℕ) (type : List ℕ) (fields : DeclaredFields) (there : Option DeclaredFields) → at_name type new ≡ there → type_narrowed number fields there ≡ [] → IsThere new type fields
type_there new number type fields None is none = cc
type_there new number type fields (Some more) is none = (more, is, fields_there number fields more none)

types_there : (old new : Declared) → types_narrowed old new ≡ [] → HasTypes old new
types_there old new = all_fine (named_narrowed new) (IsThere new) (λ n t none. type_there new n t.0 t.1 (at_name t.0 new) refl none) 0 old

type_none : (new : Declared) (number : ℕ) (t : List ℕ × DeclaredFields) → AreApart t.1 × IsThere new t.0 t.1 → named_narrowed new number t ≡ []
type_none new number t (apart, (more, is, has)) = rw is (fields_none number t.1 more apart has)

both_each : {X : Type 0} (P Q : X → Type 0) (xs : List X) → AllByRecursion P xs → AllByRecursion Q xs → AllByRecursion (λ x. P x × Q x) xs
both_each P Q [] ps qs = tt
both_each P Q (x ∷ xs) ps qs = ((ps.0, qs.0), both_each P Q xs ps.1 qs.1)

types_none : (old new : Declared) → AreApart old → FieldsApart old → HasTypes old new → types_narrowed old new ≡ []
types_none old new apart fields_apart has =
    none_found (named_narrowed new) (λ t. AreApart t.1 × IsThere new t.0 t.1) (type_none new) 0 old
    (both_each (λ t. AreApart t.1) (λ t. IsThere new t.0 t.1) old (recursion_from_All (λ t. AreApart t.1) old fields_apart)
    (each_of (λ t. at_name t.0 old ≡ Some t.1) (λ t. IsThere new t.0 t.1) old (λ t found. has t.0 t.1 found) (found_each old apart)))

-- ---- the forms

root_there : (number : ℕ) (root : List ℕ) (there : Option (List ℕ)) → found_in (root_narrowed number root there) ≡ [] → there ≡ Some root
root_there number root None none = cc
root_there number root (Some other) none = ap (λ r. Some r) (sym ((bytes_eq-Decides root other).0 (unless_true (bytes_eq root other) (is.Root number) none)))

forms_there : (old new : Forms) → forms_narrowed old new ≡ [] → HasAll old new
forms_there old new = all_fine (form_narrowed new) (λ name root. at_name name new ≡ Some root) (λ n f none. root_there n f.1 (at_name f.0 new) none) 0 old

forms_none : (old new : Forms) → AreApart old → HasAll old new → forms_narrowed old new ≡ []
forms_none old new apart has =
    none_found (form_narrowed new) (λ f. at_name f.0 new ≡ Some f.1) (λ n f is. rw (is, (bytes_eq-Decides f.1 f.1).1 refl) refl) 0 old
    (each_of (λ f. at_name f.0 old ≡ Some f.1) (λ f. at_name f.0 new ≡ Some f.1) old (λ f found. has f.0 f.1 found) (found_each old apart))

-- ---- both

pub widened : (old : Declared) (forms : Forms) (new : Declared) (new_forms : Forms) → narrowed old forms new new_forms ≡ [] → Widens old forms new new_forms
widened old forms new new_forms none =
    let parts = both_none (types_narrowed old new) (forms_narrowed forms new_forms) none in
    (types_there old new parts.0, forms_there forms new_forms parts.1)

pub none_narrowed : (old : Declared) (forms : Forms) (new : Declared) (new_forms : Forms) → AreApart old → FieldsApart old → AreApart forms → Widens old forms new new_forms → narrowed old forms new new_forms ≡ []
none_narrowed old forms new new_forms apart fields_apart forms_apart widens =
    rw (types_none old new apart fields_apart widens.0, forms_none forms new_forms forms_apart widens.1) refl

-- ---- of what was found

pub if_ok : {X E : Type 0} (P Q : X → Type 0) (r : Result X E) → ((x : X) → P x → Q x) → IfOk r P → IfOk r Q
if_ok P Q (Ok x) turn is = turn x is
if_ok P Q (Err e) turn is = tt
