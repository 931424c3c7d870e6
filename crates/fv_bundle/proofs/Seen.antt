-- A type use and a datum, level by level.
use Rattle.std.proofs.Common.{◌≡◌, map, String, Vec, Box, Global, string_bytes, rules}
use Rattle.fv_datum.specs.Data as datum
use Rattle.fv_datum.specs.Data.{entries_of}
use Rattle.fv_datum.specs.View.{view, pair_view}
use Rattle.fv_datum.specs.declared.datum.Datum.{Datum, the_lemmas as data_lemmas}
use Rattle.fv_datum.specs.declared.datum.Datum.TheVariants.{Text as text_datum, List as list_datum, Map as map_datum, Optional as optional_datum}
use Rattle.fv_bundle.specs.Spelled.{list_of}
use Rattle.fv_bundle.specs.Types.{integers, decimals, booleans, dates, instants, lists, maps, optionals, type_use_view}
use Rattle.fv_bundle.specs.declared.type_use.TypeUse.{TypeUse, the_lemmas}
use Rattle.fv_bundle.specs.declared.type_use.TypeUse.TheVariants.{Integer as integer_use, Decimal as decimal_use, Boolean as boolean_use, Date as date_use, Instant as instant_use, List as list_use, Map as map_use, Optional as optional_use}

pub view-Integer : type_use_view integer_use ≡ integers
view-Integer = search (rules, the_lemmas)

pub view-Decimal : type_use_view decimal_use ≡ decimals
view-Decimal = search (rules, the_lemmas)

pub view-Boolean : type_use_view boolean_use ≡ booleans
view-Boolean = search (rules, the_lemmas)

pub view-Date : type_use_view date_use ≡ dates
view-Date = search (rules, the_lemmas)

pub view-Instant : type_use_view instant_use ≡ instants
view-Instant = search (rules, the_lemmas)

pub view-List : (b : Box TypeUse Global) → type_use_view (list_use b) ≡ lists (type_use_view b.value)
view-List b = search (rules, the_lemmas)

pub view-Map : (b : Box TypeUse Global) → type_use_view (map_use b) ≡ maps (type_use_view b.value)
view-Map b = search (rules, the_lemmas)

pub view-Optional : (b : Box TypeUse Global) → type_use_view (optional_use b) ≡ optionals (type_use_view b.value)
view-Optional b = search (rules, the_lemmas)

-- ---- data

pub view-DataText : (s : String Global) → view (text_datum s) ≡ datum.text (string_bytes s)
view-DataText s = search (rules, data_lemmas)

pub view-DataList : (v : Vec Datum Global) → view (list_datum v) ≡ list_of (map view v.items)
view-DataList v = search (rules, data_lemmas)

pub view-DataMap : (v : Vec (Datum × Datum) Global) → view (map_datum v) ≡ datum.map (entries_of (map pair_view v.items))
view-DataMap v = search (rules, data_lemmas)

pub view-DataOptional : (b : Box Datum Global) → view (optional_datum b) ≡ datum.optional (view b.value)
view-DataOptional b = search (rules, data_lemmas)
