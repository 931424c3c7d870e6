-- Serving line after line.
use Rattle.std.proofs.Common.{◌≡◌, ◌≢◌, ℕ, ℤ, ◌+◌, ◌<◌, ◌≤◌, ◌==◌, true, List, [], ◌∷◌, ◌++◌, length, get_or, take, drop, Option, Some, None, refl, sym, ap, ◌∙◌, append_assoc, arith, inl, inr, lit<, subst, zero, suc, eq-eqb}
use Rattle.std.proofs.lemmas.List.{append-nil, take_all, length-take, take-append-drop, take-append-le, drop_more}
use Rattle.std.proofs.lemmas.List.Concat.{flat_map-append}
use Rattle.std.proofs.lemmas.Bool.{cases_lt, cases_eq, eqb-true}
use Rattle.std.specs.List.{flat_map, AllByRecursion}
use Rattle.std.specs.Io.KnownBytes.{Consumes, IsAtEnd}
use Rattle.fv_datum.specs.Moments.{IsMoment}
use Rattle.fv_engine_lines.specs.Buffering.{kept, Buffered, Broken, Taken}
use Rattle.fv_engine_lines.specs.Lines.{IsOpen, ended, last_line, WholeLines, AllLines}
use Rattle.fv_engine_lines.specs.Runs.{Steps, Ticks, Writing, Session, Run, Answered, Served, Stopped}

-- ---- one line

pub is_long : (buffer whole : List ℕ) → buffer ≡ kept whole → 1048576 < length buffer → 1048576 < length whole
is_long buffer whole k long = omega (arith, ap length k, length-take 1048577 whole)

pub is_whole : (buffer whole : List ℕ) → buffer ≡ kept whole → length buffer ≤ 1048576 → buffer ≡ whole
is_whole buffer whole k short = k ∙ take_all 1048577 whole (omega (arith, ap length k, length-take 1048577 whole))

pub answered : {P C O : Type 0} (step : Steps P) (ticks : Ticks C) (writes : Writing O) (old new : Session P C O) (buffer : List ℕ) (moment told : ℤ) (reply line : List ℕ)
    → told ≡ moment → IsMoment moment → ticks old.1 moment new.1 → ((whole : List ℕ) → buffer ≡ kept whole → step old.0 whole told reply new.0) → line ≡ ended reply → writes old.2 new.2 line
    → (whole : List ℕ) → buffer ≡ kept whole → Answered step ticks writes old whole new
answered step ticks writes old new buffer moment told reply line same_moment in_range t s same g whole k = (reply, moment, t, rw (← same_moment) (s whole k), rw same at g, in_range)

-- what is kept of a line grows by what is kept of the longer line
kept_on : (rest more : List ℕ) → take 1048577 (take 1048577 rest ++ more) ≡ take 1048577 (rest ++ more)
kept_on rest more =
    elim (cases_lt 1048577 (length rest)) [
      | inr le ↦ rw (take_all 1048577 rest le) refl
      | inl lt ↦ take-append-le 1048577 (take 1048577 rest) more (omega (arith, length-take 1048577 rest)) ∙ take_all 1048577 (take 1048577 rest) (omega (arith, length-take 1048577 rest)) ∙ sym (take-append-le 1048577 rest more (omega arith))
    ]

-- ---- the lines of bytes

all_push : {X : Type 0} (P : X → Type 0) (xs : List X) (x : X) → AllByRecursion P xs → P x → AllByRecursion P (xs ++ x ∷ [])
all_push P [] x h p = (p, tt)
all_push P (y ∷ ys) x h p = (h.0, all_push P ys x h.1 p)

all_both : {X : Type 0} (P : X → Type 0) (xs ys : List X) → AllByRecursion P xs → AllByRecursion P ys → AllByRecursion P (xs ++ ys)
all_both P [] ys h k = k
all_both P (x ∷ xs) ys h k = (h.0, all_both P xs ys h.1 k)

flat_push : (lines : List (List ℕ)) (line : List ℕ) → flat_map ended (lines ++ line ∷ []) ≡ flat_map ended lines ++ (line ++ 10 ∷ [])
flat_push lines line = flat_map-append ended lines (line ∷ []) ∙ ap (λ (l : List ℕ). flat_map ended lines ++ l) (append-nil (ended line))

-- bytes are lines, each with its end, and then a rest without an end
record Parts (bytes : List ℕ) : Type 0 where
  pub lines : List (List ℕ)
  pub rest : List ℕ
  pub whole : bytes ≡ flat_map ended lines ++ rest
  pub each : AllByRecursion IsOpen lines
  pub open_rest : IsOpen rest

-- a byte more in front
parts_after : (b : ℕ) (bs : List ℕ) (lines : List (List ℕ)) (rest : List ℕ) → b ≢ 10 → bs ≡ flat_map ended lines ++ rest → AllByRecursion IsOpen lines → IsOpen rest → Parts (b ∷ bs)
parts_after b bs [] rest other is each open_rest = record { lines = []; rest = b ∷ rest; whole = ap (λ (l : List ℕ). b ∷ l) is; each = tt; open_rest = (other, open_rest) }
parts_after b bs (line ∷ lines) rest other is each open_rest = record {
  lines = (b ∷ line) ∷ lines;
  rest = rest;
  whole = ap (λ (l : List ℕ). b ∷ l) is;
  each = ((other, each.0), each.1);
  open_rest = open_rest;
}

parts : (bytes : List ℕ) → Parts bytes
parts [] = record { lines = []; rest = []; whole = refl; each = tt; open_rest = tt }
parts (b ∷ bs) =
    let p : Parts bs = parts bs in
    elim (cases_eq b 10) [
      | inl is ↦ record {
        lines = [] ∷ p.lines;
        rest = p.rest;
        whole = ap (λ (x : ℕ). x ∷ bs) is ∙ ap (λ (l : List ℕ). 10 ∷ l) p.whole;
        each = (tt, p.each);
        open_rest = p.open_rest;
      }
      | inr other ↦ parts_after b bs p.lines p.rest other p.whole p.each p.open_rest
    ]

-- the lines of some bytes and of those behind them
parts_join : (lines others : List (List ℕ)) (behind rest : List ℕ) → behind ≡ flat_map ended others ++ rest → flat_map ended lines ++ behind ≡ flat_map ended (lines ++ others) ++ rest
parts_join lines others behind rest is =
    ap (λ (l : List ℕ). flat_map ended lines ++ l) is ∙ sym (append_assoc (flat_map ended lines) (flat_map ended others) rest) ∙ ap (λ (l : List ℕ). l ++ rest) (sym (flat_map-append ended lines others))

push_join : {X : Type 0} (xs : List X) (x : X) (ys : List X) → (xs ++ x ∷ []) ++ ys ≡ xs ++ x ∷ ys
push_join xs x ys = append_assoc xs (x ∷ []) ys

-- ---- the first line of a slice, found by its end

-- no byte before a place ends a line
pub open_before : (bytes : List ℕ) (n : ℕ) → ((k : ℕ) → 0 ≤ k → k < n → ¬ (get_or bytes k 0 == 10) ≡ true) → IsOpen (take n bytes)
open_before bytes zero h = tt
open_before [] (suc n) h = tt
open_before (b ∷ bs) (suc n) h = (λ e. h 0 (omega arith) (omega arith) (eq-eqb b 10 e), open_before bs n (λ k _ lt. h (suc k) (omega arith) (omega arith)))

-- no byte ends a line
pub open_whole : (bytes : List ℕ) → ((k : ℕ) → 0 ≤ k → k < length bytes → ¬ (get_or bytes k 0 == 10) ≡ true) → IsOpen bytes
open_whole bytes h = subst IsOpen (take_all (length bytes) bytes (omega arith)) (open_before bytes (length bytes) h)

-- bytes around the end of a line
around_end : (bytes : List ℕ) (at : ℕ) → at < length bytes → (get_or bytes at 0 == 10) ≡ true → bytes ≡ ended (take at bytes) ++ drop (at + 1) bytes
around_end bytes at lt e =
    sym (take-append-drop at bytes) ∙ ap (λ (l : List ℕ). take at bytes ++ l) (drop_more bytes at 0 lt ∙ ap (λ (b : ℕ). b ∷ drop (at + 1) bytes) (eqb-true (get_or bytes at 0) 10 e))
    ∙ sym (append_assoc (take at bytes) (10 ∷ []) (drop (at + 1) bytes))

-- a line more is done
pub line_done : (bytes done rest : List ℕ) (at : ℕ) → bytes ≡ done ++ rest → at < length rest → (get_or rest at 0 == 10) ≡ true
    → bytes ≡ (done ++ ended (take at rest)) ++ drop (at + 1) rest
line_done bytes done rest at is lt e =
    is ∙ ap (λ (l : List ℕ). done ++ l) (around_end rest at lt e) ∙ sym (append_assoc done (ended (take at rest)) (drop (at + 1) rest))

-- bytes behind a line that is behind others
pub behind_line : (before bytes done line behind : List ℕ) → bytes ≡ (done ++ line) ++ behind → ((before ++ done) ++ line) ++ behind ≡ before ++ bytes
behind_line before bytes done line behind is = rw (append_assoc before done line, append_assoc before (done ++ line) behind) (ap (λ (l : List ℕ). before ++ l) (sym is))

-- ---- the end of the input

-- over any limit: at a numeral, `take` would unfold
nothing_taken : (n : ℕ) (rest : List ℕ) → 0 < n → [] ≡ take n rest → rest ≡ []
nothing_taken n [] p e = refl
nothing_taken n (b ∷ bs) p e = absurd (omega (arith, ap length e, length-take n (b ∷ bs)))

nothing_kept : (rest : List ℕ) → [] ≡ kept rest → rest ≡ []
nothing_kept rest e = nothing_taken 1048577 rest (lit< tt) e

nothing_last : (rest : List ℕ) (lines : List (List ℕ)) → rest ≡ [] → lines ≡ lines ++ last_line rest
nothing_last rest lines is = sym (append-nil lines) ∙ ap (λ (l : List ℕ). lines ++ last_line l) (sym is)

last_is : (buffer rest : List ℕ) → (buffer ≡ [] → ⊥) → buffer ≡ kept rest → last_line rest ≡ rest ∷ []
last_is buffer [] some k = absurd (some k)
last_is buffer (b ∷ bs) some k = refl

-- ---- reading

consumes_then : (a b c : Option (List ℕ)) (xs ys : List ℕ) → Consumes a b xs → Consumes b c ys → Consumes a c (xs ++ ys)
consumes_then None b c xs ys p q = tt
consumes_then (Some x) None c xs ys p q = absurd p
consumes_then (Some x) (Some y) None xs ys p q = absurd q
consumes_then (Some x) (Some y) (Some z) xs ys p q = p ∙ ap (λ (l : List ℕ). xs ++ l) q ∙ sym (append_assoc xs ys z)

consumes_none : (a : Option (List ℕ)) → Consumes a a []
consumes_none None = tt
consumes_none (Some x) = refl

-- ---- what is served

module _ {P C O : Type 0} (step : Steps P) (ticks : Ticks C) (sends : Writing O) where
  run_push : (old : Session P C O) (lines : List (List ℕ)) (mid : Session P C O) (line : List ℕ) (new : Session P C O)
      → Run step ticks sends old lines mid → Answered step ticks sends mid line new → Run step ticks sends old (lines ++ line ∷ []) new
  run_push old [] mid line new is a = (new, subst (λ (s : Session P C O). Answered step ticks sends s line new) is a, refl)
  run_push old (l ∷ ls) mid line new ran a = (ran.0, ran.1, run_push ran.0 ls mid line new ran.2 a)

  pub buffered_add : (old new : Session P C O) (bytes buffer more buffer' : List ℕ)
      → IsOpen more → buffer' ≡ take 1048577 (buffer ++ more) → Buffered step ticks sends old bytes buffer new → Buffered step ticks sends old (bytes ++ more) buffer' new
  buffered_add old new bytes buffer more buffer' no_end is s = record {
    lines = s.lines;
    rest = s.rest ++ more;
    whole = ap (λ (l : List ℕ). l ++ more) s.whole ∙ append_assoc (flat_map ended s.lines) s.rest more;
    each = s.each;
    open_rest = all_both (λ (x : ℕ). x ≢ 10) s.rest more s.open_rest no_end;
    keeps = is ∙ rw s.keeps (kept_on s.rest more);
    ran = s.ran;
  }

  -- the end of a line
  end_added : (lines : List (List ℕ)) (rest bytes : List ℕ) → bytes ≡ flat_map ended lines ++ rest → bytes ++ 10 ∷ [] ≡ flat_map ended (lines ++ rest ∷ []) ++ []
  end_added lines rest bytes is =
      ap (λ (l : List ℕ). l ++ 10 ∷ []) is ∙ append_assoc (flat_map ended lines) rest (10 ∷ []) ∙ sym (append-nil (flat_map ended (lines ++ rest ∷ [])) ∙ flat_push lines rest)

  buffered_end : (old mid new : Session P C O) (bytes buffer : List ℕ)
      → (s : Buffered step ticks sends old bytes buffer mid) → Answered step ticks sends mid s.rest new → Buffered step ticks sends old (bytes ++ 10 ∷ []) [] new
  buffered_end old mid new bytes buffer s a = record {
    lines = s.lines ++ s.rest ∷ [];
    rest = [];
    whole = end_added s.lines s.rest bytes s.whole;
    each = all_push IsOpen s.lines s.rest s.each s.open_rest;
    open_rest = tt;
    keeps = refl;
    ran = run_push old s.lines mid s.rest new s.ran a;
  }

  broken_end : (breaks : Writing O) (old mid new : Session P C O) (bytes buffer : List ℕ)
      → (s : Buffered step ticks sends old bytes buffer mid) → Answered step ticks breaks mid s.rest new → Broken step ticks sends breaks old (bytes ++ 10 ∷ []) new
  broken_end breaks old mid new bytes buffer s a = record {
    lines = s.lines;
    line = s.rest;
    behind = [];
    whole = end_added s.lines s.rest bytes s.whole;
    each = all_push IsOpen s.lines s.rest s.each s.open_rest;
    mid = mid;
    ran = s.ran;
    last = a;
  }

  -- the last bytes of a line and its end
  pub buffered_line : (old mid new : Session P C O) (bytes buffer last line : List ℕ)
      → IsOpen last → line ≡ take 1048577 (buffer ++ last) → ((whole : List ℕ) → line ≡ kept whole → Answered step ticks sends mid whole new)
      → Buffered step ticks sends old bytes buffer mid → Buffered step ticks sends old (bytes ++ ended last) [] new
  buffered_line old mid new bytes buffer last line no_end is a s =
      let t : Buffered step ticks sends old (bytes ++ last) line mid = buffered_add old mid bytes buffer last line no_end is s in
      subst (λ (l : List ℕ). Buffered step ticks sends old l [] new) (append_assoc bytes last (10 ∷ [])) (buffered_end old mid new (bytes ++ last) line t (a t.rest t.keeps))

  pub broken_line : (breaks : Writing O) (old mid new : Session P C O) (bytes buffer last line : List ℕ)
      → IsOpen last → line ≡ take 1048577 (buffer ++ last) → ((whole : List ℕ) → line ≡ kept whole → Answered step ticks breaks mid whole new)
      → Buffered step ticks sends old bytes buffer mid → Broken step ticks sends breaks old (bytes ++ ended last) new
  broken_line breaks old mid new bytes buffer last line no_end is a s =
      let t : Buffered step ticks sends old (bytes ++ last) line mid = buffered_add old mid bytes buffer last line no_end is s in
      subst (λ (l : List ℕ). Broken step ticks sends breaks old l new) (append_assoc bytes last (10 ∷ [])) (broken_end breaks old mid new (bytes ++ last) line t (a t.rest t.keeps))

  pub broken_more : (breaks : Writing O) (old new : Session P C O) (bytes more : List ℕ) → Broken step ticks sends breaks old bytes new → Broken step ticks sends breaks old (bytes ++ more) new
  broken_more breaks old new bytes more s = record {
    lines = s.lines;
    line = s.line;
    behind = s.behind ++ more;
    whole = ap (λ (l : List ℕ). l ++ more) s.whole ∙ append_assoc (flat_map ended (s.lines ++ s.line ∷ [])) s.behind more;
    each = s.each;
    mid = s.mid;
    ran = s.ran;
    last = s.last;
  }

  pub taken_none : (r : Option (List ℕ)) (old : Session P C O) → Taken step ticks sends r r [] old old
  taken_none r old = record {
    input = [];
    consumed = consumes_none r;
    served = record { lines = []; rest = []; whole = refl; each = tt; open_rest = tt; keeps = refl; ran = refl };
  }

  pub taken_more : (r q q' : Option (List ℕ)) (old mid new : Session P C O) (bytes buffer buffer' : List ℕ)
      → Consumes q q' bytes
      → ((start : Session P C O) (before : List ℕ) → Buffered step ticks sends start before buffer mid → Buffered step ticks sends start (before ++ bytes) buffer' new)
      → Taken step ticks sends r q buffer old mid → Taken step ticks sends r q' buffer' old new
  taken_more r q q' old mid new bytes buffer buffer' k f t = record { input = t.input ++ bytes; consumed = consumes_then r q q' t.input bytes t.consumed k; served = f old t.input t.served }

  pub taken_broken : (breaks : Writing O) (r q q' : Option (List ℕ)) (old mid new : Session P C O) (bytes buffer : List ℕ)
      → Consumes q q' bytes
      → ((start : Session P C O) (before : List ℕ) → Buffered step ticks sends start before buffer mid → Broken step ticks sends breaks start (before ++ bytes) new)
      → Taken step ticks sends r q buffer old mid → Stopped step ticks sends breaks r q' old new
  taken_broken breaks r q q' old mid new bytes buffer k f t =
      let b : Broken step ticks sends breaks old (t.input ++ bytes) new = f old t.input t.served in
      let p : Parts b.behind = parts b.behind in
      let these : List (List ℕ) = b.lines ++ b.line ∷ [] in
      let all : (these ++ p.lines) ≡ b.lines ++ b.line ∷ p.lines = push_join b.lines b.line p.lines in
      let read : WholeLines r q' (these ++ p.lines) = record {
        rest = p.rest;
        read = subst (λ (l : List ℕ). Consumes r q' l) (b.whole ∙ parts_join these p.lines b.behind p.rest p.whole) (consumes_then r q q' t.input bytes t.consumed k);
        each = all_both IsOpen these p.lines b.each p.each;
        open_rest = p.open_rest;
      } in
      record { lines = b.lines; line = b.line; others = p.lines; read = inl (subst (λ (l : List (List ℕ)). WholeLines r q' l) all read); mid = b.mid; ran = b.ran; last = b.last }

  -- ---- at the end of reading

  abbrev whole_lines : (r q : Option (List ℕ)) (old new : Session P C O) (buffer : List ℕ) → (t : Taken step ticks sends r q buffer old new) → WholeLines r q t.served.lines
  whole_lines r q old new buffer t = record {
    rest = t.served.rest;
    read = subst (λ (l : List ℕ). Consumes r q l) t.served.whole t.consumed;
    each = t.served.each;
    open_rest = t.served.open_rest;
  }

  pub whole_served : (r q : Option (List ℕ)) (old new : Session P C O) (buffer : List ℕ) → Taken step ticks sends r q buffer old new → Served step ticks sends (WholeLines r q) old new
  whole_served r q old new buffer t = (t.served.lines, whole_lines r q old new buffer t, t.served.ran)

  pub all_served : (r q : Option (List ℕ)) (old new : Session P C O) (buffer : List ℕ) → IsAtEnd q → buffer ≡ [] → Taken step ticks sends r q buffer old new → Served step ticks sends (AllLines r q) old new
  all_served r q old new buffer end none t =
      let s = t.served in
      let is : s.rest ≡ [] = nothing_kept s.rest (sym none ∙ s.keeps) in
      (s.lines, (s.lines, whole_lines r q old new buffer t, nothing_last s.rest s.lines is, end), s.ran)

  pub last_served : (r q : Option (List ℕ)) (old mid new : Session P C O) (buffer : List ℕ) → IsAtEnd q → (buffer ≡ [] → ⊥)
      → (t : Taken step ticks sends r q buffer old mid) → Answered step ticks sends mid t.served.rest new → Served step ticks sends (AllLines r q) old new
  last_served r q old mid new buffer end some t a =
      let s = t.served in
      let is : last_line s.rest ≡ s.rest ∷ [] = last_is buffer s.rest some s.keeps in
      (s.lines ++ s.rest ∷ [], (s.lines, whole_lines r q old mid buffer t, ap (λ (l : List (List ℕ)). s.lines ++ l) (sym is), end), run_push old s.lines mid s.rest new s.ran a)

  pub last_stopped : (breaks : Writing O) (r q : Option (List ℕ)) (old mid new : Session P C O) (buffer : List ℕ) → IsAtEnd q → (buffer ≡ [] → ⊥)
      → (t : Taken step ticks sends r q buffer old mid) → Answered step ticks breaks mid t.served.rest new → Stopped step ticks sends breaks r q old new
  last_stopped breaks r q old mid new buffer end some t a =
      let s = t.served in
      let is : last_line s.rest ≡ s.rest ∷ [] = last_is buffer s.rest some s.keeps in
      record {
        lines = s.lines;
        line = s.rest;
        others = [];
        read = inr (s.lines, whole_lines r q old mid buffer t, ap (λ (l : List (List ℕ)). s.lines ++ l) (sym is), end);
        mid = mid;
        ran = s.ran;
        last = a;
      }
