-- Where a JSON value isn't of a form.
use Rattle.std.specs.Prelude.{ℕ, suc, List, [], ◌∷◌, ◌++◌, map, Bool, not, if◌then◌else◌, Option, Some, None, option_map}
use Rattle.std.specs.Cmp.Lexicographic.{slice_cmp}
use Rattle.std.specs.List.{list_any, find}
use Rattle.std.specs.Option.{option_or}
use Rattle.std.specs.Ordering.{nat_cmp, match_ordering}
use Rattle.std.specs.Str.{bytes_eq}
use Rattle.serde_json.specs.Data as json
use Rattle.fv_datum.specs.Members.{pairs}

-- ---- forms

-- a member of an object: its name, whether it has to be there, and its form
pub record Entry (G : Type 0) : Type 0 where
  pub name : List ℕ
  pub required : Bool
  pub form : G

-- what is asked of a value: nothing more, or what it can't be; that it is an array of items of a form, an object whose members are of a form,
-- or an object that has these members and no others
pub data Form (G : Type 0) : Type 0 where
  fits : Form G
  unfit : Form G
  items : G → Form G
  members : G → Form G
  object : List (Entry G) → Form G

-- the forms of a language: what each asks of a value
abbrev pub Language : Type 0 → Type 0
Language G = G → json.Data → Form G

-- ---- places

-- a step inwards: to an item of an array, from 0, or to a member of an object
pub data Step : Type 0 where
  item : ℕ → Step
  member : List ℕ → Step

-- what is wrong: the value isn't of the form, the form has no such member, or the value lacks the member of a name
pub data Flaw : Type 0 where
  misfit : Flaw
  stranger : Flaw
  lacking : List ℕ → Flaw

-- the steps to a place, the innermost first, what is wrong there, and the form that is asked
pub record Misfit (G : Type 0) : Type 0 where
  pub steps : List Step
  pub flaw : Flaw
  pub form : G

-- a flaw of the value itself
abbrev pub here : {G : Type 0} → G → Flaw → Misfit G
here g flaw = record { steps = []; flaw = flaw; form = g }

-- the same one step further outwards
abbrev pub under : {G : Type 0} → Step → Misfit G → Misfit G
under step m = record { steps = m.steps ++ step ∷ []; flaw = m.flaw; form = m.form }

-- ---- the first place

-- a name is none of the entries'
abbrev pub is_strange : {G : Type 0} → List (Entry G) → List ℕ → Bool
is_strange es name = not (list_any (λ e. bytes_eq e.name name) es)

-- the first of these that is there
abbrev pub first_of : {X : Type 0} → List (Option X) → Option X
first_of [] = None
first_of (o ∷ os) = option_or o (first_of os)

-- what a form asks of a value that is neither an array nor an object
abbrev pub of_plain : {G : Type 0} → G → Form G → Option (Misfit G)
of_plain g fits = None
of_plain g _ = Some (here g misfit)

-- what it asks of an array, by what is found in its items
abbrev pub of_array : {G : Type 0} → G → Form G → (G → Option (Misfit G)) → Option (Misfit G)
of_array g fits inside = None
of_array g (items h) inside = inside h
of_array g _ inside = Some (here g misfit)

-- what it asks of an object, by what is found in its members, or of entries
abbrev pub of_object : {G : Type 0} → G → Form G → (G → Option (Misfit G)) → (List (Entry G) → Option (Misfit G)) → Option (Misfit G)
of_object g fits inside entries = None
of_object g (members h) inside entries = inside h
of_object g (object es) inside entries = entries es
of_object g _ inside entries = Some (here g misfit)

-- the first member that is none of the entries
abbrev pub stranger_in : {G : Type 0} → G → List (Entry G) → json.Members → Option (Misfit G)
stranger_in g es ms = option_map (λ m. under (member m.0) (here g stranger)) (find (λ m. is_strange es m.0) (pairs ms))

abbrev mutual
  -- the first place where a value isn't of a form: from outside inwards, in an object first a member that has no business there, then the
  -- entries in their order
  pub first_misfit : {G : Type 0} → Language G → G → json.Data → Option (Misfit G)
  first_misfit look g (json.array js) = of_array g (look g (json.array js)) (λ h. in_items look h 0 js)
  first_misfit look g (json.object ms) =
      of_object g (look g (json.object ms)) (λ h. in_members look h ms)
      (λ es. option_or (stranger_in g es ms) (first_of (map (λ e. in_entry look g e ms) es)))
  first_misfit look g j = of_plain g (look g j)

  -- the first in items, the first of which has this number
  pub in_items : {G : Type 0} → Language G → G → ℕ → json.Items → Option (Misfit G)
  in_items look h n json.no_items = None
  in_items look h n (json.item j js) = option_or (option_map (under (item n)) (first_misfit look h j)) (in_items look h (suc n) js)

  -- the first in members
  pub in_members : {G : Type 0} → Language G → G → json.Members → Option (Misfit G)
  in_members look h json.no_members = None
  in_members look h (json.member name j ms) = option_or (option_map (under (member name)) (first_misfit look h j)) (in_members look h ms)

  -- what is wrong with the member of an entry
  pub in_entry : {G : Type 0} → Language G → G → Entry G → json.Members → Option (Misfit G)
  in_entry look g e json.no_members = if e.required then Some (here g (lacking e.name)) else None
  in_entry look g e (json.member name j ms) =
      match_ordering (slice_cmp nat_cmp e.name name) (in_entry look g e ms)
      (option_map (under (member e.name)) (first_misfit look e.form j)) (in_entry look g e ms)
