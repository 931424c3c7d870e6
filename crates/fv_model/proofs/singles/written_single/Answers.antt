use Rattle.std.proofs.Common.{◌≡◌, ℕ, List, [], ◌∷◌, map, zip, true, Option, Some, None, option_map, is_some, slice_get, refl, sym, ap, ◌∙◌}
use Rattle.std.specs.Map.{keys_of}
use Rattle.std.specs.Option.{unwrap_or}
use Rattle.fv_datum.specs.Data.{Data}
use Rattle.fv_datum.specs.Lookup.{at_name}
use Rattle.fv_datum.specs.View.{view}
use Rattle.fv_bundle.specs.Types.{TypeUse, DeclaredFields, Declared, type_use_view, name_at, fields_at, fields_view}
use Rattle.fv_bundle.specs.Bundles.{Thing}
use Rattle.fv_model.specs.Single.{single_field, single_thing, single_of}
use Rattle.fv_model.specs.Views.{types_view}
use Rattle.fv_model.proofs.singles.written_single.Goals as goal

-- an object of the type of a number, with these data beside its fields
abbrev with_data : Declared → ℕ → List Data → Thing
with_data ts n held = record { type_name = name_at ts n; fields = zip (keys_of (fields_at ts n)) held }

module _ (name : List ℕ) (d : Data) where
  beside : (fs : DeclaredFields) → zip (keys_of fs) (map (λ f. (single_field name d f).1) fs) ≡ map (single_field name d) fs
  beside [] = refl
  beside (f ∷ fs) = ap (λ (l : List (List ℕ × Data)). single_field name d f ∷ l) (beside fs)

  there : (ts : Declared) (n : ℕ) (o : Option TypeUse) → is_some o ≡ true → Some (single_thing ts n name d) ≡ option_map (λ _. single_thing ts n name d) o
  there ts n None some = cc
  there ts n (Some u) some = refl

  made : (ts : Declared) (n : ℕ) (fs : DeclaredFields) (held : List Data) → Some fs ≡ option_map (λ t. t.1) (slice_get ts n) → is_some (at_name name fs) ≡ true → held ≡ map (λ f. (single_field name d f).1) fs
      → Some (with_data ts n held) ≡ single_of ts n name d
  made ts n fs held declared some is =
      let fields : fields_at ts n ≡ fs = ap (λ (o : Option DeclaredFields). unwrap_or o []) (sym declared) in
      let all : zip (keys_of (fields_at ts n)) held ≡ map (single_field name d) (fields_at ts n) =
      ap (zip (keys_of (fields_at ts n))) is ∙ ap (λ (l : DeclaredFields). zip (keys_of l) (map (λ f. (single_field name d f).1) fs)) fields ∙ beside fs ∙ ap (map (single_field name d)) (sym fields) in
      ap (λ (l : List (List ℕ × Data)). Some (record { type_name = name_at ts n; fields = l })) all ∙ there ts n (at_name name (fields_at ts n)) (ap (λ (l : DeclaredFields). is_some (at_name name l)) fields ∙ some)

-- what is there is seen
seen_some : {X Y : Type 0} (f : X → Y) (o : Option X) → is_some o ≡ true → is_some (option_map f o) ≡ true
seen_some f None some = some
seen_some f (Some x) some = refl

pub returns : goal.returns
returns c =
    let ts = types_view c.args.types.now in
    let name = c.args.field.now in
    let fields = fields_view c.in-Some.fields.now in
    let some : is_some (at_name name fields) ≡ true = ap is_some (sym c.use_in.ensures) ∙ seen_some (λ (u : _). type_use_view u.now) c.use_in.result c.if-is_none.ensures in
    rw (c.new.ensures, c.in_ok-share.ensures) (made name (view c.args.datum.now) ts c.args.type_id.index fields _ c.in-Some.ensures some c.in_ok-data.ensures.exact)
