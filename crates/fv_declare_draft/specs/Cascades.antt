-- Whether the objects at a place are validated, and how groups are converted on the way to them, as it is written.
use Rattle.std.specs.Prelude.{ℕ, List, [], Bool, false, Option, option_map, codes}
use Rattle.serde_json.specs.Data as json
use Rattle.serde_json.specs.Find.{as_bool, as_str}
use Rattle.fv_datum.specs.Forms.{optional, each_member, map2}

-- a group by its name, and the one that it is converted to
pub record Conversion : Type 0 where
  pub from : List ℕ
  pub to : List ℕ

-- whether the objects there are validated, and the conversions on the way to them
pub record CascadeDraft : Type 0 where
  pub valid : Bool
  pub conversions : List Conversion

-- a group with the one that it is converted to
abbrev pub conversion_of : List ℕ × json.Data → Option Conversion
conversion_of m = option_map (λ to. record { from = m.0; to = to }) (as_str m.1)

-- the members `"valid":BOOL` and `"convert":{GROUP:GROUP}` of a place, which may be missing
abbrev pub cascade_of : json.Data → Option CascadeDraft
cascade_of j = map2 (λ valid conversions. record { valid = valid; conversions = conversions })
    (optional false as_bool (codes "valid") j) (optional [] (each_member conversion_of) (codes "convert") j)
