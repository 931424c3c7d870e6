-- The text of a record as it is shown, from the texts of its parts.
use Rattle.std.proofs.Common.{◌≡◌, ◌++◌, ℕ, List, codes, refl}
use Rattle.json.specs.Print.{quoted, escape_byte}
use Rattle.serde_json.specs.Data as json
use Rattle.serde_json.specs.Written.{compact_text}
use Rattle.fv_engine_lines.specs.Lines.{IsOpen}
use Rattle.fv_engine_reply.proofs.OneLine.{both, none_ends}

pub shown_text : (id form : List ℕ) (bundle : json.Data) (i f b : List ℕ) → b ≡ compact_text bundle → f ≡ quoted form → i ≡ quoted id
    → codes "{\"bundle\":" ++ (b ++ (codes ",\"form\":" ++ (f ++ (codes ",\"id\":" ++ (i ++ codes ",\"ok\":\"get\"}")))))
    ≡ compact_text (json.object
    (json.member (codes "bundle") bundle
    (json.member (codes "form") (json.string form)
    (json.member (codes "id") (json.string id)
    (json.member (codes "ok") (json.string (codes "get")) json.no_members)))))
unfolding escape_byte
shown_text id form bundle i f b p q r = rw (p, q, r) refl

-- where its parts have no newline it has none
pub shown_line : (i f b : List ℕ) → IsOpen b → IsOpen f → IsOpen i
    → IsOpen (codes "{\"bundle\":" ++ (b ++ (codes ",\"form\":" ++ (f ++ (codes ",\"id\":" ++ (i ++ codes ",\"ok\":\"get\"}"))))))
shown_line i f b p q r =
    let name = codes "{\"bundle\":" in
    let of_form = codes ",\"form\":" in
    let of_id = codes ",\"id\":" in
    let end = codes ",\"ok\":\"get\"}" in
    both name (b ++ (of_form ++ (f ++ (of_id ++ (i ++ end))))) (none_ends name refl)
    (both b (of_form ++ (f ++ (of_id ++ (i ++ end)))) p
    (both of_form (f ++ (of_id ++ (i ++ end))) (none_ends of_form refl)
    (both f (of_id ++ (i ++ end)) q
    (both of_id (i ++ end) (none_ends of_id refl)
    (both i end r (none_ends end refl))))))
