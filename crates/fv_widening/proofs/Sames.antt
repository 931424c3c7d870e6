-- Type uses pass the test exactly where they are the same.
use Rattle.std.proofs.Common.{◌≡◌, true, refl, ap}
use Rattle.std.proofs.lemmas.Slice.Eq.{bytes_eq-Decides}
use Rattle.fv_bundle.specs.Types.{TypeUse, texts, integers, decimals, booleans, dates, instants, references, lists, maps, optionals}
use Rattle.fv_widening.specs.Same.{is_same}

pub same_use : (u v : TypeUse) → is_same u v ≡ true → u ≡ v
same_use texts texts h = refl
same_use texts _ h = cc
same_use integers integers h = refl
same_use integers _ h = cc
same_use decimals decimals h = refl
same_use decimals _ h = cc
same_use booleans booleans h = refl
same_use booleans _ h = cc
same_use dates dates h = refl
same_use dates _ h = cc
same_use instants instants h = refl
same_use instants _ h = cc
same_use (references type) (references other) h = ap references ((bytes_eq-Decides type other).0 h)
same_use (references type) _ h = cc
same_use (lists u) (lists v) h = ap lists (same_use u v h)
same_use (lists u) _ h = cc
same_use (maps u) (maps v) h = ap maps (same_use u v h)
same_use (maps u) _ h = cc
same_use (optionals u) (optionals v) h = ap optionals (same_use u v h)
same_use (optionals u) _ h = cc

pub use_same : (u : TypeUse) → is_same u u ≡ true
use_same texts = refl
use_same integers = refl
use_same decimals = refl
use_same booleans = refl
use_same dates = refl
use_same instants = refl
use_same (references type) = (bytes_eq-Decides type type).1 refl
use_same (lists u) = use_same u
use_same (maps u) = use_same u
use_same (optionals u) = use_same u
