-- Where templates are cut, and what their first parts are.
use Rattle.std.proofs.Common.{◌≡◌, ◌<◌, ◌≤◌, ◌+◌, ℕ, suc, List, [], ◌∷◌, ◌++◌, length, get_or, take, drop, Bool, true, false, not, refl, sym, ap, ◌∙◌, arith, Bor, inl, inr, ◌⊎◌}
use Rattle.std.specs.List.{list_all, prefix_len, slice_range}
use Rattle.std.specs.Str.{IsUtf8, IsCharBoundary}
use Rattle.std.proofs.lemmas.Bool.{not-false, cases_lt}
use Rattle.std.proofs.lemmas.Bool.Decides.{nat_tests}
use Rattle.std.proofs.lemmas.List.{take-append-drop, length-take-le, length-drop}
use Rattle.std.proofs.lemmas.List.Sums.{prefix_len-le-length, prefix_len_stops}
use Rattle.std.proofs.lemmas.Str.{IsCharBoundary-end, IsCharBoundary-before_ascii, IsCharBoundary-after_ascii}
use Rattle.fv_message.specs.Template.{is_special, begins, stands_plain}
use Rattle.fv_message.specs.Reading.{begins_plain, pieces_of}
use Rattle.fv_message.specs.Parts.{BeginsWith}
use Rattle.fv_message.specs.declared.template.Part.TheVariants.{Plain}
use Rattle.fv_message.proofs.Pieces.{escape_read, plain_run_read}

-- a special byte is an ASCII character
special_small : (b : ℕ) → is_special b ≡ true → b < 128
special_small b e = grind (arith, nat_tests)

-- behind a brace
pub brace_cut : (t : List ℕ) → IsUtf8 t → 1 ≤ length t → get_or t 0 0 ≡ 123 → IsCharBoundary t 1
brace_cut t utf8 l e = IsCharBoundary-after_ascii t 0 utf8 (omega arith) (omega arith)

-- behind an escaped byte
pub escape_cut : (t : List ℕ) → IsUtf8 t → begins is_special (drop 1 t) ≡ true → IsCharBoundary t 2
escape_cut [] utf8 e = absurd (cc)
escape_cut (a ∷ []) utf8 e = absurd (cc)
escape_cut (a ∷ b ∷ t) utf8 e = IsCharBoundary-after_ascii (a ∷ b ∷ t) 1 utf8 (omega arith) (special_small b e)

-- an escaped byte
pub escape_first : (t : List ℕ) (text : Bor (List ℕ)) (rest : List ℕ) → get_or t 0 0 ≡ 92 → begins is_special (drop 1 t) ≡ true
    → text.now ≡ slice_range t 1 2 → rest ≡ drop 2 t → BeginsWith t (Plain text) rest
escape_first [] text rest a e f g = absurd (cc)
escape_first (x ∷ []) text rest a e f g = absurd (cc)
escape_first (x ∷ b ∷ t) text rest a e f g = record {
  read = rw (a, f, g) (escape_read b t e);
  shorter = rw g (omega arith);
  room = rw (f, g) (omega arith);
}

-- ---- runs of bytes that aren't special

abbrev pub ordinary : ℕ → Bool
ordinary b = not (is_special b)

run_all : (s : List ℕ) → list_all ordinary (take (prefix_len ordinary s) s) ≡ true
run_all [] = refl
run_all (b ∷ s) = go (ordinary b) refl (run_all s)
  where
    one_more : (n : ℕ) → 1 + n ≡ suc n
    one_more n = omega arith

    go : (v : Bool) → ordinary b ≡ v → list_all ordinary (take (prefix_len ordinary s) s) ≡ true → list_all ordinary (take (prefix_len ordinary (b ∷ s)) (b ∷ s)) ≡ true
    go true v rest = rw (v, one_more (prefix_len ordinary s), v) rest
    go false v rest = rw v refl

-- a run ends at the end of a text, or at a special byte
run_ends : (s : List ℕ) → prefix_len ordinary s < length s → get_or s (prefix_len ordinary s) 0 < 128
run_ends s l = special_small (get_or s (prefix_len ordinary s) 0) (not-false (is_special (get_or s (prefix_len ordinary s) 0)) (prefix_len_stops ordinary s 0 l))

run_cut_in : (t : List ℕ) (n : ℕ) → begins_plain t ≡ true → n ≡ prefix_len ordinary (drop 1 t) → (suc n ≤ length t) × (suc n < length t → get_or t (suc n) 0 < 128)
run_cut_in [] n e f = absurd (cc)
run_cut_in (b ∷ s) n e f =
    let le = prefix_len-le-length ordinary s in
    (omega (arith, f, le), λ l. rw f (run_ends s (omega (arith, f))))

-- behind a byte that is plain as it stands and the run behind it
pub run_cut : (t : List ℕ) (n : ℕ) → begins_plain t ≡ true → n ≡ prefix_len ordinary (drop 1 t) → IsCharBoundary t (suc n)
run_cut t n e f = go (cases_lt (suc n) (length t)) (run_cut_in t n e f)
  where
    go : (suc n < length t) ⊎ (length t ≤ suc n) → (suc n ≤ length t) × (suc n < length t → get_or t (suc n) 0 < 128) → IsCharBoundary t (suc n)
    go (inl l) at = IsCharBoundary-before_ascii t (suc n) l (at.1 l)
    go (inr l) at = let same : length t ≡ suc n = omega (arith, at.0) in rw (← same) (IsCharBoundary-end t)

-- such a byte and its run
pub run_first : (t : List ℕ) (n : ℕ) (text : Bor (List ℕ)) (rest : List ℕ) → begins_plain t ≡ true → n ≡ prefix_len ordinary (drop 1 t)
    → text.now ≡ take (suc n) t → rest ≡ drop (suc n) t → BeginsWith t (Plain text) rest
run_first [] n text rest e f g h = absurd (cc)
run_first (b ∷ s) n text rest e f g h =
    let le : n ≤ length s = omega (arith, f, prefix_len-le-length ordinary s) in
    let all : list_all ordinary (take n s) ≡ true = rw f (run_all s) in
    let whole = take-append-drop n s in
    let stands : stands_plain b (take n s ++ drop n s) ≡ true = rw whole e in
    let short = length-take-le n s le in
    let left = length-drop n s in
    record {
      read = rw (g, h) (ap (λ (l : List ℕ). pieces_of (b ∷ l)) (sym whole) ∙ plain_run_read b (take n s) (drop n s) stands all);
      shorter = rw h (omega (arith, left));
      room = rw (g, h) (omega (arith, short, left));
    }
