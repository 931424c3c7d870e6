-- Defaults that are put in where nothing is given.
use Rattle.std.proofs.Common.{◌≡◌, ℕ, List, map, Bool, true, false, cond, Option, Some, None, option_map, is_some, String, string_bytes, nat_cmp, bytes_eq, refl, sym, ap, ◌∙◌}
use Rattle.std.specs.declared.alloc.Global.{Global}
use Rattle.std.specs.BTreeMap.{insert_entry, is_at}
use Rattle.std.specs.Cmp.Lexicographic.{slice_cmp}
use Rattle.std.specs.Map.{lookup}
use Rattle.std.specs.Option.{option_or}
use Rattle.std.proofs.lemmas.Slice.Eq.{bytes_eq-Decides}
use Rattle.fv_datum.specs.Attributes.{AttributeValue, Attributes, attribute_view, entry_view}
use Rattle.fv_datum.specs.Lookup.{at_name}
use Rattle.fv_datum.specs.declared.attrs.Attribute.{Attribute}
use Rattle.fv_builtin.specs.Given.{in_effect}
use Rattle.fv_builtin.specs.Table.{default_of}
use Rattle.fv_builtin.specs.declared.name.BuiltinName.{BuiltinName}
use Rattle.fv_datum.proofs.Lookups.{tree-at_name}
use Rattle.fv_datum.proofs.Maps.{at_insert}

is_some-map : {X Y : Type 0} (f : X → Y) (o : Option X) → is_some (option_map f o) ≡ is_some o
is_some-map f None = refl
is_some-map f (Some x) = refl

-- something stands at a name of a map
pub stands : (name : List ℕ) (es : List (String Global × Attribute)) → is_some (lookup (is_at (λ k. slice_cmp nat_cmp name (string_bytes k))) es) ≡ is_some (at_name name (map entry_view es))
stands name es = sym (is_some-map attribute_view _) ∙ ap is_some (tree-at_name attribute_view name es)

-- what is given stays
pub given_stays : (given default : Option AttributeValue) → is_some given ≡ true → option_or given default ≡ given
given_stays None default e = absurd (cc)
given_stays (Some v) None e = refl
given_stays (Some v) (Some d) e = refl

pub given_alone : (given : Option AttributeValue) → option_or given None ≡ given
given_alone None = refl
given_alone (Some v) = refl

default_taken : (given default : Option AttributeValue) (v : AttributeValue) → is_some given ≡ false → default ≡ Some v → Some v ≡ option_or given default
default_taken (Some x) default v free is = absurd (cc)
default_taken None None v free is = absurd (cc)
default_taken None (Some d) v free is = sym is

module _ (which : BuiltinName) (old : Attributes) (name : List ℕ) where
  -- where nothing changes
  pub each_stays : option_or (at_name name old) (default_of which name) ≡ at_name name old → (q : List ℕ) → at_name q old ≡ cond (bytes_eq q name) (in_effect which old q) (at_name q old)
  each_stays stays q = go (bytes_eq q name) refl
    where
      go : (b : Bool) → bytes_eq q name ≡ b → at_name q old ≡ cond b (in_effect which old q) (at_name q old)
      go false e = refl
      go true e = let same : q ≡ name = (bytes_eq-Decides q name).0 e in rw same (sym stays)

  -- where the default is put in
  pub each_put : (v : AttributeValue) → default_of which name ≡ Some v → is_some (at_name name old) ≡ false
      → (q : List ℕ) → at_name q (insert_entry (slice_cmp nat_cmp) old name v) ≡ cond (bytes_eq q name) (in_effect which old q) (at_name q old)
  each_put v default free q = at_insert old name v q ∙ go (bytes_eq q name) refl
    where
      go : (b : Bool) → bytes_eq q name ≡ b → cond b (Some v) (at_name q old) ≡ cond b (in_effect which old q) (at_name q old)
      go false e = refl
      go true e = let same : q ≡ name = (bytes_eq-Decides q name).0 e in rw same (default_taken (at_name name old) (default_of which name) v free default)
