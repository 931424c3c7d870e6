-- What a line asks of the service, beside the command that it is.
use Rattle.std.proofs.Common.{◌≡◌, ℕ, Bool, true, false, List, [], ◌∷◌, Option, Some, None, option_and_then, unwrap_or, if◌then◌else◌, codes, length, nat_lt, bytes_eq, refl, sym, ap, ◌∙◌}
use Rattle.std.proofs.lemmas.Slice.Eq.{bytes_eq-Decides}
use Rattle.std.specs.Option.{option_map_or}
use Rattle.serde_json.specs.Data as json
use Rattle.serde_json.specs.Find.{as_str}
use Rattle.fv_datum.specs.Forms.{required}
use Rattle.fv_datum.specs.Lookup.{at_name}
use Rattle.fv_datum.specs.Members.{has_only}
use Rattle.fv_datum.specs.Parsing.{json_of}
use Rattle.fv_engine_command.specs.Commands.{Request, too_long, shape, forms, command_of, of_json, asked, Asked, redeclare, of_records, redeclare_of, asks_json, asks}

passed : {X : Type 0} (b : Bool) (o : Option X) (x : X) → (if b then o else None) ≡ Some x → b ≡ true
passed true o x is = refl
passed false o x is = cc

what_passed : {X : Type 0} (b : Bool) (o : Option X) (x : X) → (if b then o else None) ≡ Some x → o ≡ Some x
what_passed true o x is = is
what_passed false o x is = cc

-- no command has the name of a redeclare
no_command : (name : List ℕ) → bytes_eq name (codes "redeclare") ≡ true → at_name name forms ≡ None
no_command name is = let same : name ≡ codes "redeclare" = (bytes_eq-Decides name (codes "redeclare")).0 is in rw same refl

-- the text of a redeclare, by the name at `do`
abbrev text_by : json.Data → List ℕ → Option (List ℕ)
text_by j name = if bytes_eq name (codes "redeclare") then required as_str (codes "text") j else None

named : (j : json.Data) (name : Option (List ℕ)) (text : List ℕ) → option_and_then (text_by j) name ≡ Some text
    → option_and_then (λ n. option_and_then (λ form. form j) (at_name n forms)) name ≡ None
named j None text is = refl
named j (Some name) text is =
    let called : bytes_eq name (codes "redeclare") ≡ true = passed (bytes_eq name (codes "redeclare")) (required as_str (codes "text") j) text is in
    rw (no_command name called) refl

-- a redeclare is no command
redeclare_alone : (j : json.Data) (text : List ℕ) → redeclare_of j ≡ Some text → command_of j ≡ None
redeclare_alone j text is =
    named j (required as_str (codes "do") j) text
    (what_passed (has_only (codes "do" ∷ codes "text" ∷ []) j) (option_and_then (text_by j) (required as_str (codes "do") j)) text is)

-- A line asks for other declarations, and is no command then, or for what it is as a command.
pub data AsksOne (a : Asked) (r : Request) : Type 0 where
  redeclares : (text : List ℕ) → a ≡ redeclare text → r ≡ shape → AsksOne a r
  commands : a ≡ of_records r → AsksOne a r

json_one : (o : Option json.Data) → AsksOne (asks_json o) (of_json o)
json_one None = commands refl
json_one (Some j) = go (redeclare_of j) refl
  where
    go : (o : Option (List ℕ)) → redeclare_of j ≡ o → AsksOne (asks_json (Some j)) (of_json (Some j))
    go None is = commands (ap (λ (o : Option (List ℕ)). option_map_or redeclare o (of_records (of_json (Some j)))) is)
    go (Some text) is =
        redeclares text (ap (λ (o : Option (List ℕ)). option_map_or redeclare o (of_records (of_json (Some j)))) is)
        (ap (λ (o : Option Request). unwrap_or o shape) (redeclare_alone j text is))

line_one : (b : Bool) (o : Option json.Data) → AsksOne (if b then of_records too_long else asks_json o) (if b then too_long else of_json o)
line_one true o = commands refl
line_one false o = json_one o

pub asks_one : (line : List ℕ) → AsksOne (asks line) (asked line)
unfolding asks asked
asks_one line = line_one (nat_lt 1048576 (length line)) (json_of line)

-- what is asked for of the records is what the line is as a command
pub asks_inner : (line : List ℕ) (r : Request) → asks line ≡ of_records r → r ≡ asked line
asks_inner line r is = elim (asks_one line) [ redeclares text there none ↦ cc | commands same ↦ cc ]

-- a line that asks for other declarations is no command
pub asks_shape : (line text : List ℕ) → asks line ≡ redeclare text → asked line ≡ shape
asks_shape line text is = elim (asks_one line) [ redeclares other there none ↦ none | commands same ↦ cc ]

-- what a line is as a command is what it asks for, but where it is JSON that is no command
pub asks_command : (line : List ℕ) (r : Request) → asked line ≡ r → (r ≡ shape → ⊥) → asks line ≡ of_records r
asks_command line r is some =
    elim (asks_one line) [ redeclares text there none ↦ absurd (some (sym is ∙ none)) | commands same ↦ same ∙ ap of_records is ]
