-- An object: names with its data.
use Rattle.std.proofs.Common.{◌≡◌, ℕ, List, [], ◌∷◌, map, zip, false, Some, Ok, slice_get, refl, sym, ap}
use Rattle.std.specs.List.{list_any}
use Rattle.std.specs.Map.{keys_of}
use Rattle.fv_datum.specs.Data.{Data}
use Rattle.fv_datum.specs.Lookup.{at_name}
use Rattle.fv_bundle.specs.Bundles.{Thing}
use Rattle.fv_model.specs.Draft.{ObjectDraft}
use Rattle.fv_model.specs.Fitting.{field_misfits, part_misfits, unless_wrong}
use Rattle.fv_model.specs.Reading.{given_field, object_of}
use Rattle.fv_bundle.specs.Types.{DeclaredFields, Declared, name_at, fields_at}

-- each element's images by two functions, side by side
zip-maps : {X Y Z : Type 0} (f : X → Y) (g : X → Z) (xs : List X) → zip (map f xs) (map g xs) ≡ map (λ x. (f x, g x)) xs
zip-maps f g [] = refl
zip-maps f g (x ∷ xs) = ap (λ rest. (f x, g x) ∷ rest) (zip-maps f g xs)

-- an object of the type of a number, whose data are those of its fields
pub object_made : (ts : Declared) (p : ObjectDraft) (n : ℕ) (fs : DeclaredFields) (ds : List Data) → at_name p.type_name ts ≡ Some fs → slice_get ts n ≡ Some (p.type_name, fs) → list_any (field_misfits p.given) fs ≡ false → map (λ f. (given_field p.given f).1) fs ≡ ds
    → unless_wrong (part_misfits ts p) (object_of ts p).1 ≡ Ok (record { type_name = name_at ts n; fields = zip (keys_of (fields_at ts n)) ds })
object_made ts p n fs ds known placed fit made =
    let with_fields : List (List ℕ × Data) → Thing = λ xs. record { type_name = p.type_name; fields = xs } in
    rw (known, placed, fit, ← made) (ap (λ xs. Ok (with_fields xs)) (sym (zip-maps (λ f. f.0) (λ f. (given_field p.given f).1) fs)))
