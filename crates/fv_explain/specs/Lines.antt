-- Lines in plain text.
use Rattle.std.specs.Prelude.{◌==◌, if◌then◌else◌, length, ◌++◌, ℕ, List, [], Option, Some, None, codes, decimal, map, string_bytes}
use Rattle.std.specs.List.{join_by}
use Rattle.std.specs.Borrow.{Bor}
use Rattle.fv_datum.specs.Attributes.{Attributes}
use Rattle.fv_explain_faults.specs.Quoted.{quoted}
use Rattle.fv_explain.specs.Attributes.{attributes_text}
use Rattle.fv_explain.specs.declared.lines.ExplainedLine.{ExplainedLine}
use Rattle.fv_explain.specs.declared.lines.ExplainedLine.TheVariants.{Constraint, Part, Group, Sequence, Form, Warning, Fault, Limits}
use Rattle.fv_explain.specs.declared.lines.FormLine.{FormLine}
use Rattle.fv_explain.specs.declared.lines.LimitsLine.{LimitsLine}
use Rattle.fv_explain.specs.declared.lines.PartLine.{PartLine}
use Rattle.fv_explain.specs.declared.lines.UseLine.{UseLine}

-- the names that references are to
abbrev pub names_in : List (Bor (List ℕ)) → List (List ℕ)
names_in names = map (λ n. n.now) names

-- names with some words between them
abbrev pub joined : List ℕ → List (List ℕ) → List ℕ
joined between names = join_by (λ n. n) between names

-- a plain group, with those that it is or inherits
abbrev pub group_text : (name : List ℕ) (inherited : List (List ℕ)) → List ℕ
group_text name inherited = codes "group " ++ (name ++ (codes ": " ++ joined (codes ", ") inherited))

-- a sequence, with those that it stands for, in order
abbrev pub sequence_text : (name : List ℕ) (ranks : List (List ℕ)) → List ℕ
sequence_text name ranks = codes "group " ++ (name ++ (codes ": first " ++ joined (codes ", then ") ranks))

-- a form with its root and its groups, and the types that are reached from there
abbrev pub form_text : (name root : List ℕ) (groups : List (List ℕ)) (reached : List ℕ) → List ℕ
form_text name root groups reached =
    codes "form " ++ (name ++ (codes ": root " ++ (root ++ (codes "; groups " ++ (joined (codes ", ") groups ++ (codes "; " ++ reached))))))

-- the types that a form holds by plain references alone, if there are any
abbrev pub held_text : List (List ℕ) → List ℕ
held_text names = if length names == 0 then [] else (codes "; may hold " ++ (joined (codes ", ") names ++ codes " by plain references"))

-- the types that a form reaches
abbrev pub reached_text : (valid plain : List (List ℕ)) → List ℕ
reached_text valid plain = codes "reaches " ++ (joined (codes ", ") valid ++ (codes " through valid" ++ held_text plain))

-- the same, of a line
abbrev pub form_line_text : FormLine → List ℕ
form_line_text l = form_text l.name.now l.root.now (names_in l.groups.items)
    (reached_text (names_in l.valid.items) (names_in l.plain.items))

-- what a warning begins with, and where and what it warns of
abbrev pub warning_text : List ℕ → List ℕ
warning_text warned = codes "warning: " ++ warned

-- a constraint where it is used: its number, its place, its name, the attributes in effect, its groups and its message
abbrev pub use_text : (number : ℕ) (place constraint : List ℕ) (attributes : Attributes) (groups : List (List ℕ)) (message : List ℕ) → List ℕ
use_text number place constraint attributes groups message =
    decimal number ++ (codes " " ++ (place ++ (codes " " ++ (constraint ++ (attributes_text attributes
    ++ (codes " groups " ++ (joined (codes ", ") groups ++ (codes " message " ++ quoted message))))))))

-- the same, of a line
abbrev pub use_line_text : UseLine → List ℕ
use_line_text l = use_text l.number l.place.now l.constraint.now l.attributes.0.now (names_in l.groups.items) (string_bytes l.message)

-- a constraint that a used one is composed of: its number, its name, the attributes in effect, and as what it is reported
abbrev pub part_text : (number : ℕ) (constraint : List ℕ) (attributes : Attributes) (reported : List ℕ) → List ℕ
part_text number constraint attributes reported =
    codes "  " ++ (decimal number ++ (codes " " ++ (constraint ++ (attributes_text attributes ++ reported))))

-- whether a constraint asks nothing itself, is reported with its message, or is reported as another
abbrev pub reported_as : (number : ℕ) (reported : Option ℕ) (name message : List ℕ) → List ℕ
reported_as number None name message = codes " asks nothing itself"
reported_as number (Some other) name message =
    if other == number then (codes " message " ++ quoted message) else (codes " reported as " ++ (decimal other ++ (codes " " ++ name)))

-- the same, of a line
abbrev pub reported_text : PartLine → List ℕ
reported_text l = reported_as l.number l.reported l.reported_name.now (string_bytes l.message)

-- a line of a constraint that a used one is composed of
abbrev pub part_line_text : PartLine → List ℕ
part_line_text l = part_text l.number l.constraint.now l.attributes.0.now (reported_text l)

-- a fault at a place, with its code and its name, and what is wrong there
abbrev pub fault_text : (place code name text : List ℕ) → List ℕ
fault_text place code name text = place ++ (codes ": " ++ (code ++ (codes " " ++ (name ++ (codes ": " ++ text)))))

-- how much is used of what may be
abbrev pub limit_text : ℕ → ℕ → List ℕ
limit_text used most = decimal used ++ (codes " of " ++ decimal most)

-- the limits that are used, each by such a text
abbrev pub all_limits : (constraints fields forms groups : List ℕ) → List ℕ
all_limits constraints fields forms groups =
    codes "limits: " ++ (constraints ++ (codes " constraints, " ++ (fields ++ (codes " fields of a type, "
    ++ (forms ++ (codes " forms, " ++ (groups ++ codes " groups with Default")))))))

-- the same, of a line
abbrev pub limits_text : LimitsLine → List ℕ
limits_text l = all_limits (limit_text l.constraints.used l.constraints.most) (limit_text l.fields.used l.fields.most)
    (limit_text l.forms.used l.forms.most) (limit_text l.groups.used l.groups.most)

-- a line
abbrev pub line_text : ExplainedLine → List ℕ
line_text (Constraint line) = use_line_text line
line_text (Part line) = part_line_text line
line_text (Group name inherits) = group_text name.now (names_in inherits.items)
line_text (Sequence name sequence) = sequence_text name.now (names_in sequence.items)
line_text (Form line) = form_line_text line
line_text (Warning place text) = warning_text (place.now ++ (codes ": " ++ text.now))
line_text (Fault code name place text) = fault_text place.now code.now name.now text.now
line_text (Limits line) = limits_text line
