-- How the logic stores what a field holds: as the kinds from the outermost container to what stands in all of them, and the type that
-- references refer to.
use Rattle.std.proofs.Common.{◌≡◌, ℕ, List, [], ◌∷◌, refl, ap}
use Rattle.std.specs.Coded.{Coded, code_by, coded_ℕ, coded_list, coded×}
use Rattle.fv_datum.specs.contracts.kind.Kind as kinds
use Rattle.fv_datum.specs.declared.kind.Kind.{Kind}
use Rattle.fv_datum.specs.declared.kind.Kind.TheVariants as kind
use Rattle.fv_bundle.specs.Types.{TypeUse, texts, integers, decimals, booleans, dates, instants, references, lists, maps, optionals, kind_of}

-- the kinds of the containers, the outermost first, and of what stands in all of them
abbrev pub kinds_of : TypeUse → List Kind
kinds_of (lists held) = kind.List ∷ kinds_of held
kinds_of (maps held) = kind.Map ∷ kinds_of held
kinds_of (optionals held) = kind.Optional ∷ kinds_of held
kinds_of type = kind_of type ∷ []

-- the type that references refer to, empty where there are none
abbrev pub referred : TypeUse → List ℕ
referred (references type) = type
referred (lists held) = referred held
referred (maps held) = referred held
referred (optionals held) = referred held
referred _ = []

-- what these kinds, from the outermost on, and a type say that a field holds
abbrev pub use_of : List Kind → List ℕ → TypeUse
use_of [] type = texts
use_of (kind.Text ∷ ks) type = texts
use_of (kind.Integer ∷ ks) type = integers
use_of (kind.Decimal ∷ ks) type = decimals
use_of (kind.Boolean ∷ ks) type = booleans
use_of (kind.Date ∷ ks) type = dates
use_of (kind.Instant ∷ ks) type = instants
use_of (kind.Ref ∷ ks) type = references type
use_of (kind.List ∷ ks) type = lists (use_of ks type)
use_of (kind.Map ∷ ks) type = maps (use_of ks type)
use_of (kind.Optional ∷ ks) type = optionals (use_of ks type)

-- its kinds and its type say what a field holds
pub use_of-kinds : (type : TypeUse) → use_of (kinds_of type) (referred type) ≡ type
use_of-kinds texts = refl
use_of-kinds integers = refl
use_of-kinds decimals = refl
use_of-kinds booleans = refl
use_of-kinds dates = refl
use_of-kinds instants = refl
use_of-kinds (references type) = refl
use_of-kinds (lists held) = ap lists (use_of-kinds held)
use_of-kinds (maps held) = ap maps (use_of-kinds held)
use_of-kinds (optionals held) = ap optionals (use_of-kinds held)

-- how the logic stores kinds with a type
abbrev pub stored_code : Coded (List Kind × List ℕ)
stored_code = coded× (coded_list kinds.the_row.coded) (coded_list coded_ℕ)

-- how the logic stores what a field holds
abbrev pub type_use_code : Coded TypeUse
type_use_code = code_by (List Kind × List ℕ) stored_code (λ type. (kinds_of type, referred type)) (λ p. use_of p.0 p.1) use_of-kinds
