-- The fields of an object: names with its data.
use Rattle.std.proofs.Common.{◌≡◌, ℕ, List, [], ◌∷◌, map, zip, String, string_bytes, length, refl, ap, subst, arith}
use Rattle.std.specs.List.{All, AllByRecursion}
use Rattle.std.specs.Map.{keys_of}
use Rattle.std.specs.declared.alloc.Global.{Global}
use Rattle.std.proofs.lemmas.List.Elements.{All-nil, All-cons, All-head, All-tail}
use Rattle.fv_datum.specs.View.{view}
use Rattle.fv_datum.specs.declared.datum.Datum.{Datum}
use Rattle.fv_bundle.specs.Bundles.{Thing}
use Rattle.fv_bundle.specs.Types.{use_view, fields_at}
use Rattle.fv_bundle.specs.Views.{types_view, named_view}
use Rattle.fv_bundle.specs.Writing.{IsWritten}
use Rattle.fv_bundle.specs.declared.bundle.Object.{Object}
use Rattle.fv_bundle.specs.declared.type_use.TypeUse.{TypeUse}

-- the names of fields, as they are declared and as they are seen
pub field_names : (es : List (String Global × TypeUse)) → map string_bytes (keys_of es) ≡ keys_of (map use_view es)
field_names [] = refl
field_names (e ∷ es) = ap (λ ns. string_bytes e.0 ∷ ns) (field_names es)

-- no data are left
pub none_left : (ns : List (List ℕ)) (ds : List Datum) → length ds ≡ 0 → zip ns (map view ds) ≡ []
none_left [] ds none = refl
none_left (n ∷ ns) [] none = refl
none_left (n ∷ ns) (d ∷ ds) none = absurd (omega arith)

-- a datum that can be written
abbrev CanBeWritten : Datum → Type 0
CanBeWritten d = IsWritten (view d)

-- data that can be written, with their names
pub written_fields : (ns : List (List ℕ)) (ds : List Datum) → All CanBeWritten ds → AllByRecursion (λ f. IsWritten f.1) (zip ns (map view ds))
written_fields [] ds all = tt
written_fields (n ∷ ns) [] all = tt
written_fields (n ∷ ns) (d ∷ ds) all = (All-head CanBeWritten d ds all, written_fields ns ds (All-tail CanBeWritten d ds all))

-- data of the same values as data that can be written
pub written_alike : (xs ys : List Datum) → map view xs ≡ map view ys → All CanBeWritten ys → All CanBeWritten xs
written_alike [] ys same all = All-nil CanBeWritten
written_alike (x ∷ xs) [] same all = cc
written_alike (x ∷ xs) (y ∷ ys) same all =
    let head : view y ≡ view x = cc in
    let tail : map view xs ≡ map view ys = cc in
    All-cons CanBeWritten x xs (subst IsWritten head (All-head CanBeWritten y ys all)) (written_alike xs ys tail (All-tail CanBeWritten y ys all))

-- an object, with its name, whose data can be written
abbrev pub AreWritten : List ℕ × Thing → Type 0
AreWritten o = AllByRecursion (λ f. IsWritten f.1) o.1.fields

pub objects_written : (es : List (String Global × Object)) → AllByRecursion AreWritten (map named_view es)
objects_written [] = tt
objects_written (e ∷ es) = (written_fields (keys_of (fields_at (types_view e.1.types) e.1.type_id.index)) e.1.data.items e.1.written, objects_written es)
