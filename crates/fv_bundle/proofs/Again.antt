-- What is read of plain JSON under any type use is written as that JSON.
use Rattle.std.proofs.Common.{◌≡◌, ℕ, ℤ, pos, negsuc, List, [], ◌∷◌, ◌++◌, Bool, true, false, cond, Option, Some, None, option_map, option_and_then, refl, sym, ap, ◌∙◌, append_assoc, append-nil}
use Rattle.std.specs.Map.{keys_of}
use Rattle.serde_json.specs.Data as json
use Rattle.serde_json.specs.Find.{as_str, as_bool, of_integer}
use Rattle.serde_json.specs.View as seen
use Rattle.fv_datum.specs.Data as datum
use Rattle.fv_datum.specs.Data.{Data, items_of, entries_of}
use Rattle.fv_datum.specs.Days.{is_date}
use Rattle.fv_datum.specs.Decimals.{is_decimal}
use Rattle.fv_datum.specs.Moments.{is_moment}
use Rattle.fv_datum.specs.Name.{names}
use Rattle.fv_datum.specs.Json.{spelled, plain, is_null_json, is_of_64_bits, whole_of, passing, string_of, integer_of}
use Rattle.fv_datum.specs.Members.{pairs, listed, each_some}
use Rattle.fv_datum.specs.Written.{is_null, keys_fit, written, items_written, entries_written}
use Rattle.fv_datum.specs.declared.kind.Kind.{Kind}
use Rattle.fv_datum.specs.declared.kind.Kind.TheVariants as kind
use Rattle.fv_datum.specs.Ascending.{IsAscending}
use Rattle.fv_bundle.specs.Spelled.{datum_of, entry_read, only_item, list_of, map_of}
use Rattle.fv_bundle.specs.Types.{TypeUse, texts, integers, decimals, booleans, dates, instants, references, lists, maps, optionals}
use Rattle.fv_bundle.proofs.Fitted.{mapped, entry_parts}
use Rattle.fv_datum.proofs.Lists.{both_some}
use Rattle.fv_datum.proofs.Members.{AreAscending, all_put, put_again, ascending_keys}
use Rattle.fv_bundle.proofs.Orders.{keyed, keys_in_order}
use Rattle.fv_datum.proofs.PlainJson.{IsWhole, IsPlain, ArePlainItems, ArePlain}
use Rattle.fv_bundle.proofs.Spelling.{keys_read}

chained : {X Y : Type 0} (f : X → Option Y) (o : Option X) (y : Y) → option_and_then f o ≡ Some y → (x : X) × (o ≡ Some x) × (f x ≡ Some y)
chained f (Some x) y e = (x, refl, e)
chained f None y e = cc

passed : {X : Type 0} (b : Bool) (x y : X) → cond b (Some x) None ≡ Some y → x ≡ y
passed true x y e = cc
passed false x y e = cc

unless : {X : Type 0} (b : Bool) (o : Option X) (y : X) → cond b None o ≡ Some y → (b ≡ false) × (o ≡ Some y)
unless true o y e = cc
unless false o y e = (refl, e)

-- ---- what isn't `null` isn't read as null

plain_some : (k : Kind) (j : json.Data) (d : Data) → plain k j ≡ Some d → is_null d ≡ false
plain_some kind.Text j d e = let found = mapped datum.text (as_str j) d e in rw found.2 refl
plain_some kind.Integer j d e = let found = mapped datum.integer (integer_of j) d e in rw found.2 refl
plain_some kind.Decimal j d e = let found = mapped datum.decimal (string_of is_decimal j) d e in rw found.2 refl
plain_some kind.Boolean j d e = let found = mapped datum.boolean (as_bool j) d e in rw found.2 refl
plain_some kind.Date j d e = let found = mapped datum.date (string_of is_date j) d e in rw found.2 refl
plain_some kind.Instant j d e = let found = mapped datum.instant (option_and_then (passing is_moment) (integer_of j)) d e in rw found.2 refl
plain_some kind.Ref j d e = let found = mapped datum.reference (string_of names j) d e in rw found.2 refl
plain_some _ j d e = cc

spelled_some : (k : Kind) (j : json.Data) (d : Data) → is_null_json j ≡ false → spelled k j ≡ Some d → is_null d ≡ false
spelled_some k j d some e = plain_some k j d (rw some at e)

pub some_read : (u : TypeUse) (j : json.Data) (d : Data) → is_null_json j ≡ false → datum_of u j ≡ Some d → is_null d ≡ false
some_read texts j d some e = spelled_some kind.Text j d some e
some_read integers j d some e = spelled_some kind.Integer j d some e
some_read decimals j d some e = spelled_some kind.Decimal j d some e
some_read booleans j d some e = spelled_some kind.Boolean j d some e
some_read dates j d some e = spelled_some kind.Date j d some e
some_read instants j d some e = spelled_some kind.Instant j d some e
some_read (references type) j d some e = spelled_some kind.Ref j d some e
some_read (lists u) (json.array js) d some e = let found = mapped list_of (each_some (datum_of u) (listed js)) d e in rw found.2 refl
some_read (lists u) _ d some e = cc
some_read (maps u) (json.object ms) d some e = let found = mapped map_of (each_some (entry_read (datum_of u)) (pairs ms)) d e in rw found.2 refl
some_read (maps u) _ d some e = cc
some_read (optionals u) (json.array js) d some e = let found = mapped datum.optional (only_item (datum_of u) js) d e in rw found.2 refl
some_read (optionals u) _ d some e = cc

-- ---- data of a kind

-- a string that passed a test is kept
string_again : (f : List ℕ → Data) (test : List ℕ → Bool) (s : List ℕ) (d : Data) → option_map f (passing test s) ≡ Some d → d ≡ f s
string_again f test s d e =
    let found = mapped f (passing test s) d e in
    let same : s ≡ found.0 = passed (test s) s found.0 found.1 in
    found.2 ∙ ap f (sym same)

-- and so is a whole number
number_again : (n : json.Num) (z : ℤ) → IsWhole n → whole_of n ≡ Some z → of_integer z ≡ n
number_again (json.unsigned n) z whole e = let same : pos n ≡ z = passed (is_of_64_bits (pos n)) (pos n) z e in ap of_integer (sym same)
number_again (json.negative (pos n)) z whole e = absurd whole
number_again (json.negative (negsuc n)) z whole e = let same : negsuc n ≡ z = passed (is_of_64_bits (negsuc n)) (negsuc n) z e in ap of_integer (sym same)
number_again (json.float x) z whole e = absurd whole

kind_again : (k : Kind) (j : json.Data) (d : Data) → IsPlain j → spelled k j ≡ Some d → written d ≡ Some j
kind_again k json.null d h e = let same : datum.null ≡ d = cc in ap written (sym same)
kind_again kind.Text (json.string s) d h e = let same : datum.text s ≡ d = cc in ap written (sym same)
kind_again kind.Text _ d h e = cc
kind_again kind.Integer (json.number n) d h e =
    let found = mapped datum.integer (whole_of n) d e in
    ap written found.2 ∙ ap (λ m. Some (json.number m)) (number_again n found.0 h found.1)
kind_again kind.Integer _ d h e = cc
kind_again kind.Decimal (json.string s) d h e = ap written (string_again datum.decimal is_decimal s d e)
kind_again kind.Decimal _ d h e = cc
kind_again kind.Boolean (json.boolean b) d h e = let same : datum.boolean b ≡ d = cc in ap written (sym same)
kind_again kind.Boolean _ d h e = cc
kind_again kind.Date (json.string s) d h e = ap written (string_again datum.date is_date s d e)
kind_again kind.Date _ d h e = cc
kind_again kind.Instant (json.number n) d h e =
    let found = mapped datum.instant (option_and_then (passing is_moment) (whole_of n)) d e in
    let moment = chained (passing is_moment) (whole_of n) found.0 found.1 in
    let same : moment.0 ≡ found.0 = passed (is_moment moment.0) moment.0 found.0 moment.2 in
    ap written found.2 ∙ ap (λ m. Some (json.number m)) (number_again n found.0 h (moment.1 ∙ ap (λ z. Some z) same))
kind_again kind.Instant _ d h e = cc
kind_again kind.Ref (json.string s) d h e = ap written (string_again datum.reference names s d e)
kind_again kind.Ref _ d h e = cc
kind_again _ _ d h e = cc

-- ---- containers

-- what is read of plain JSON is written as it
abbrev WritesAgain : (json.Data → Option Data) → Type 0
WritesAgain f = (j : json.Data) (d : Data) → IsPlain j → f j ≡ Some d → written d ≡ Some j

items_again : (f : json.Data → Option Data) → WritesAgain f → (done : List json.Data) (js : json.Items) (ds : List Data) → ArePlainItems js → each_some f (listed js) ≡ Some ds → items_written done (items_of ds) ≡ Some (seen.items_of (done ++ listed js))
items_again f turn done json.no_items ds h e =
    let same : [] ≡ ds = cc in
    ap (λ xs. items_written done (items_of xs)) (sym same) ∙ ap (λ xs. Some (seen.items_of xs)) (sym (append-nil done))
items_again f turn done (json.item j js) ds h e =
    let found = both_some (f j) (each_some f (listed js)) ds e in
    let more : (done ++ j ∷ []) ++ listed js ≡ done ++ j ∷ listed js = simp append_assoc in
    ap (λ xs. items_written done (items_of xs)) (sym found.4)
    ∙ ap (option_and_then (λ x. items_written (done ++ x ∷ []) (items_of found.1))) (turn j found.0 h.0 found.2)
    ∙ items_again f turn (done ++ j ∷ []) js found.1 h.1 found.3 ∙ ap (λ xs. Some (seen.items_of xs)) more

listed_again : (js : json.Items) → seen.items_of (listed js) ≡ js
listed_again json.no_items = refl
listed_again (json.item j js) = ap (json.item j) (listed_again js)

entries_again : (f : json.Data → Option Data) → WritesAgain f → (found ms : json.Members) (es : List (List ℕ × Data)) → ArePlain ms → each_some (entry_read f) (pairs ms) ≡ Some es → entries_written found (entries_of (keyed es)) ≡ Some (all_put found ms)
entries_again f turn found json.no_members es h e = let same : [] ≡ es = cc in ap (λ xs. entries_written found (entries_of (keyed xs))) (sym same)
entries_again f turn found (json.member k j ms) es h e =
    let parts = both_some (entry_read f (k, j)) (each_some (entry_read f) (pairs ms)) es e in
    let one = entry_parts f (k, j) parts.0 parts.2 in
    ap (λ xs. entries_written found (entries_of (keyed xs))) (sym parts.4)
    ∙ ap (option_and_then (λ x. entries_written (json.put parts.0.0 x found) (entries_of (keyed parts.1)))) (turn j parts.0.1 h.0 one.1)
    ∙ ap (λ n. entries_written (json.put n j found) (entries_of (keyed parts.1))) one.0
    ∙ entries_again f turn (json.put k j found) ms parts.1 h.1 parts.3

map_again : (f : json.Data → Option Data) → WritesAgain f → (ms : json.Members) (es : List (List ℕ × Data)) → ArePlain ms → AreAscending ms → each_some (entry_read f) (pairs ms) ≡ Some es → written (map_of es) ≡ Some (json.object ms)
map_again f turn ms es h ordered e =
    let ascending : IsAscending (keys_of es) = rw (keys_read f (pairs ms) es e) (ascending_keys ms ordered) in
    let fit : keys_fit (entries_of (keyed es)) ≡ true = keys_in_order es ascending in
    rw fit (ap (option_map json.object) (entries_again f turn json.no_members ms es h e) ∙ ap (λ xs. Some (json.object xs)) (put_again ms ordered))

only_again : (f : json.Data → Option Data) → WritesAgain f → ((j : json.Data) (d : Data) → is_null_json j ≡ false → f j ≡ Some d → is_null d ≡ false) → (js : json.Items) (c : Data) → ArePlainItems js → only_item f js ≡ Some c → written (datum.optional c) ≡ Some (json.array js)
only_again f turn some json.no_items c h e = let same : datum.null ≡ c = cc in ap (λ x. written (datum.optional x)) (sym same)
only_again f turn some (json.item j json.no_items) c h e =
    let found = unless (is_null_json j) (f j) c e in
    let here : is_null c ≡ false = some j c found.0 found.1 in
    rw here (ap (option_map (λ x. json.array (json.item x json.no_items))) (turn j c h.0 found.1))
only_again f turn some (json.item j (json.item k js)) c h e = cc

-- ---- a datum

pub written_again : (u : TypeUse) (j : json.Data) (d : Data) → IsPlain j → datum_of u j ≡ Some d → written d ≡ Some j
written_again texts j d h e = kind_again kind.Text j d h e
written_again integers j d h e = kind_again kind.Integer j d h e
written_again decimals j d h e = kind_again kind.Decimal j d h e
written_again booleans j d h e = kind_again kind.Boolean j d h e
written_again dates j d h e = kind_again kind.Date j d h e
written_again instants j d h e = kind_again kind.Instant j d h e
written_again (references type) j d h e = kind_again kind.Ref j d h e
written_again (lists u) json.null d h e = let same : datum.null ≡ d = cc in ap written (sym same)
written_again (lists u) (json.array js) d h e =
    let found = mapped list_of (each_some (datum_of u) (listed js)) d e in
    ap written found.2 ∙ ap (option_map json.array) (items_again (datum_of u) (λ x y plain is. written_again u x y plain is) [] js found.0 h found.1)
    ∙ ap (λ xs. Some (json.array xs)) (listed_again js)
written_again (lists u) _ d h e = cc
written_again (maps u) json.null d h e = let same : datum.null ≡ d = cc in ap written (sym same)
written_again (maps u) (json.object ms) d h e =
    let found = mapped map_of (each_some (entry_read (datum_of u)) (pairs ms)) d e in
    ap written found.2 ∙ map_again (datum_of u) (λ x y plain is. written_again u x y plain is) ms found.0 h.0 h.1 found.1
written_again (maps u) _ d h e = cc
written_again (optionals u) json.null d h e = let same : datum.null ≡ d = cc in ap written (sym same)
written_again (optionals u) (json.array js) d h e =
    let found = mapped datum.optional (only_item (datum_of u) js) d e in
    ap written found.2 ∙ only_again (datum_of u) (λ x y plain is. written_again u x y plain is) (some_read u) js found.0 h found.1
written_again (optionals u) _ d h e = cc
