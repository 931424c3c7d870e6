-- What a line asks for.
use Rattle.std.specs.Prelude.{ℕ, ◌&&◌, ◌||◌, ◌==◌, List, [], ◌∷◌, length, Bool, nat_lt, nat_le, Option, Some, None, option_map, option_and_then, unwrap_or, if◌then◌else◌, codes}
use Rattle.std.specs.Char.{is_ascii_alphanumeric}
use Rattle.std.specs.List.{list_all}
use Rattle.std.specs.Option.{option_map_or}
use Rattle.std.specs.Str.{bytes_eq}
use Rattle.serde_json.specs.Data as json
use Rattle.serde_json.specs.Find.{as_number, as_str, as_u64, get as get_at}
use Rattle.fv_datum.specs.Forms.{only, required, maybe, optional, each_item, map2, map3, map4}
use Rattle.fv_datum.specs.Json.{passing, string_of}
use Rattle.fv_datum.specs.Lookup.{at_name}
use Rattle.fv_datum.specs.Parsing.{json_of}
use Rattle.fv_datum.specs.NameLists.{names_of}

-- a part of a command that changes records
pub data Part : Type 0 where
  -- the id, the form and the bundle's JSON
  put : List ℕ → List ℕ → json.Data → Part
  -- the id, the names of an object and of a field of it, and the value's JSON
  set : List ℕ → List ℕ → List ℕ → json.Data → Part
  remove : List ℕ → Part

-- a command, or why a line is none
pub data Request : Type 0 where
  too_long : Request
  not_json : Request
  -- JSON that is no command
  shape : Request
  -- a put, a set or a remove by itself
  alone : Part → Request
  -- all of these in order, or none
  batch : List Part → Request
  get : List ℕ → Request
  -- the id, and the names of the groups that are asked for
  check : List ℕ → List (List ℕ) → Request
  -- the id, the names of an object and of a field of it, and those of the groups
  check_field : List ℕ → List ℕ → List ℕ → List (List ℕ) → Request
  -- the names of a type and of a field of it, the value's JSON, and the names of the groups
  check_value : List ℕ → List ℕ → json.Data → List (List ℕ) → Request
  -- the form, the id above which the list begins, and the most ids
  list : List ℕ → Option (List ℕ) → ℕ → Request

-- 1 to 64 ASCII letters, ASCII digits, `_` and `-`
abbrev pub is_id : List ℕ → Bool
is_id s = nat_lt 0 (length s) && nat_le (length s) 64 && list_all (λ b. is_ascii_alphanumeric b || b == 95 || b == 45) s

-- a string that is an id: 1 to 64 ASCII letters, ASCII digits, `_` and `-`
abbrev pub id_in : json.Data → Option (List ℕ)
id_in = string_of (λ s. nat_lt 0 (length s) && nat_le (length s) 64 && list_all (λ b. is_ascii_alphanumeric b || b == 95 || b == 45) s)

-- the id at the member `id`
abbrev pub id_at : json.Data → Option (List ℕ)
id_at = required id_in (codes "id")

-- ---- parts

-- `{"do":"put","id":ID,"form":NAME,"bundle":..}`, its bundle any value
abbrev pub put_of : json.Data → Option Part
put_of = only (codes "do" ∷ codes "id" ∷ codes "form" ∷ codes "bundle" ∷ []) (λ j.
    map3 put (id_at j) (required as_str (codes "form") j) (get_at (codes "bundle") j))

-- `{"do":"set","id":ID,"object":NAME,"field":NAME,"value":..}`, its value any JSON
abbrev pub set_of : json.Data → Option Part
set_of = only (codes "do" ∷ codes "id" ∷ codes "object" ∷ codes "field" ∷ codes "value" ∷ []) (λ j.
    map4 set (id_at j) (required as_str (codes "object") j) (required as_str (codes "field") j) (get_at (codes "value") j))

-- `{"do":"remove","id":ID}`
abbrev pub remove_of : json.Data → Option Part
remove_of = only (codes "do" ∷ codes "id" ∷ []) (λ j. option_map remove (id_at j))

-- the parts by their names
abbrev pub part_forms : List (List ℕ × (json.Data → Option Part))
part_forms = (codes "put", put_of) ∷ (codes "set", set_of) ∷ (codes "remove", remove_of) ∷ []

-- the part that a JSON value is, by the name at its member `do`
abbrev pub part_of : json.Data → Option Part
part_of j = option_and_then (λ name. option_and_then (λ form. form j)
    (at_name name ((codes "put", put_of) ∷ (codes "set", set_of) ∷ (codes "remove", remove_of) ∷ []))) (required as_str (codes "do") j)

-- the parts that an array has, 1 to 64 of them
abbrev pub parts_in : json.Data → Option (List Part)
parts_in j = option_and_then (passing (λ parts. nat_lt 0 (length parts) && nat_le (length parts) 64)) (each_item part_of j)

-- ---- commands

-- `{"do":"batch","parts":[PART,..]}`, with 1 to 64 parts
abbrev pub batch_of : json.Data → Option Request
batch_of = only (codes "do" ∷ codes "parts" ∷ []) (λ j. option_map batch (required parts_in (codes "parts") j))

-- `{"do":"get","id":ID}`
abbrev pub get_of : json.Data → Option Request
get_of = only (codes "do" ∷ codes "id" ∷ []) (λ j. option_map get (id_at j))

-- the names at the member `groups`: an array of at most 32 texts, repeats included; no names where there is no such member
abbrev pub groups_at : json.Data → Option (List (List ℕ))
groups_at j = option_and_then (passing (λ names. nat_le (length names) 32)) (names_of (codes "groups") j)

-- `{"do":"check","id":ID,"groups":[NAME,..]}`, where the groups may be missing
abbrev pub check_of : json.Data → Option Request
check_of = only (codes "do" ∷ codes "id" ∷ codes "groups" ∷ []) (λ j. map2 check (id_at j) (groups_at j))

-- `{"do":"checkfield","id":ID,"object":NAME,"field":NAME,"groups":[NAME,..]}`, where the groups may be missing
abbrev pub check_field_of : json.Data → Option Request
check_field_of = only (codes "do" ∷ codes "id" ∷ codes "object" ∷ codes "field" ∷ codes "groups" ∷ []) (λ j.
    map4 check_field (id_at j) (required as_str (codes "object") j) (required as_str (codes "field") j) (groups_at j))

-- `{"do":"checkvalue","type":NAME,"field":NAME,"value":..,"groups":[NAME,..]}`, its value any JSON, where the groups may be missing
abbrev pub check_value_of : json.Data → Option Request
check_value_of = only (codes "do" ∷ codes "type" ∷ codes "field" ∷ codes "value" ∷ codes "groups" ∷ []) (λ j.
    map4 check_value (required as_str (codes "type") j) (required as_str (codes "field") j) (get_at (codes "value") j) (groups_at j))

-- the most ids that a list gives: 1 to 1,000
abbrev pub limit_in : json.Data → Option ℕ
limit_in j = option_and_then (passing (λ n. nat_lt 0 n && nat_le n 1000)) (option_and_then as_u64 (as_number j))

-- `{"do":"list","form":NAME,"after":ID,"limit":N}`, where the last two may be missing; the limit is 100 then
abbrev pub list_request : json.Data → Option Request
list_request = only (codes "do" ∷ codes "form" ∷ codes "after" ∷ codes "limit" ∷ []) (λ j.
    map3 list (required as_str (codes "form") j) (maybe id_in (codes "after") j) (optional 100 limit_in (codes "limit") j))

-- the commands on records by their names, among them `{"do":"batch","parts":[PART,..]}`, `{"do":"get","id":ID}`
-- and `{"do":"check","id":ID,"groups":[NAME,..]}`, where the groups may be missing
abbrev pub forms : List (List ℕ × (json.Data → Option Request))
forms =
    (codes "put", λ j. option_map alone (put_of j))
    ∷ (codes "set", λ j. option_map alone (set_of j))
    ∷ (codes "remove", λ j. option_map alone (remove_of j))
    ∷ (codes "batch", only (codes "do" ∷ codes "parts" ∷ []) (λ j. option_map batch (required parts_in (codes "parts") j)))
    ∷ (codes "get", only (codes "do" ∷ codes "id" ∷ []) (λ j. option_map get (id_at j)))
    ∷ (codes "check", only (codes "do" ∷ codes "id" ∷ codes "groups" ∷ []) (λ j. map2 check (id_at j) (groups_at j)))
    ∷ (codes "checkfield", check_field_of)
    ∷ (codes "checkvalue", check_value_of)
    ∷ (codes "list", list_request)
    ∷ []

-- the command that a JSON value is, by the name at its member `do`
abbrev pub command_of : json.Data → Option Request
command_of j = option_and_then (λ name. option_and_then (λ form. form j) (at_name name forms)) (required as_str (codes "do") j)

-- what a line asks for by its JSON value, or that it has none
abbrev pub of_json : Option json.Data → Request
of_json None = not_json
of_json (Some j) = unwrap_or (command_of j) shape

-- what a line asks of the records: what its JSON value does, or too much where it has more than 1,048,576 bytes
unfoldable pub asked : List ℕ → Request
asked line = if nat_lt 1048576 (length line) then too_long else of_json (json_of line)

-- ---- other declarations

-- what a line asks of the service: other declarations, or something of the records under those in force
pub data Asked : Type 0 where
  -- the new declarations' text
  redeclare : List ℕ → Asked
  of_records : Request → Asked

-- `{"do":"redeclare","text":STRING}`
abbrev pub redeclare_of : json.Data → Option (List ℕ)
redeclare_of = only (codes "do" ∷ codes "text" ∷ []) (λ j. option_and_then
    (λ name. if bytes_eq name (codes "redeclare") then required as_str (codes "text") j else None) (required as_str (codes "do") j))

-- what a JSON value asks for: what isn't of a redeclare's form is a command, or none
abbrev pub asks_json : Option json.Data → Asked
asks_json None = of_records not_json
asks_json (Some j) = option_map_or redeclare (redeclare_of j) (of_records (of_json (Some j)))

-- what a line asks of the service: what its JSON value does, or too much where it has more than 1,048,576 bytes
unfoldable pub asks : List ℕ → Asked
asks line = if nat_lt 1048576 (length line) then of_records too_long else asks_json (json_of line)
