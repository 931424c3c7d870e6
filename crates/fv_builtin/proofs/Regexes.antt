-- The patterns that are built, by their texts: what is found there, and one more of them.
use Rattle.std.proofs.Common.{◌≡◌, ℕ, List, Bool, true, false, cond, Option, Some, Result, Ok, Err, IfOk, IfErr, IfSome, OnOk, OnErr, String, Global, string_bytes, string_cmp, bytes_eq, refl, sym, ◌∙◌, subst}
use Rattle.std.specs.BTreeMap.{BTreeMap, get_by_text, IsUnchanged, Updates}
use Rattle.std.specs.declared.rc.Rc.{Rc}
use Rattle.std.proofs.lemmas.Map.Text.{btree_map_updates_text}
use Rattle.std.proofs.lemmas.Slice.Eq.{bytes_eq-Decides}
use Rattle.regex.specs.Failures.{IsRightKind, HasSpanIn}
use Rattle.regex.specs.Sources.{IsRefusal}
use Rattle.regex.specs.Names.{names_of}
use Rattle.regex.specs.Patterns.{Reads, default_config, Config}
use Rattle.regex.specs.Strings.{regex_pattern, regex_source, regex_config, IsReadFromSource, IsDefaultFailure}
use Rattle.regex.specs.declared.error.Error.{Error}
use Rattle.regex.specs.declared.error.Error.TheVariants.{Syntax, CompiledTooBig, Internal, OutOfMemory}
use Rattle.regex.specs.declared.string.regex.Regex.{Regex}
use Rattle.fv_builtin.specs.BuiltIns.{pattern}
use Rattle.fv_builtin.specs.Given.{IsBuilt, answer_of}
use Rattle.fv_builtin.specs.Matches.{anchored, IsReadFrom}
use Rattle.fv_builtin.specs.Patterns.{AreRead}
use Rattle.fv_builtin.specs.declared.compiled.Compiled.{Compiled}

failed : (source text : List ℕ) (e : Error) → source ≡ text → IsRefusal default_config source e → IsRightKind default_config source e → HasSpanIn source e → IsDefaultFailure text e
failed source text e is refusal kind span = subst (λ (s : List ℕ). IsDefaultFailure s e) is (refusal, kind, span)

-- what is told of the regex crate's answer to a text between anchors
pub told : (regexp source : List ℕ) (r : Result Regex Error) → source ≡ anchored regexp
    → IfOk r (λ x. regex_source x ≡ source) → IfOk r (λ x. regex_config x ≡ default_config) → IfOk r IsReadFromSource
    → IfErr r (IsRefusal default_config source) → IfErr r (IsRightKind default_config source) → IfErr r (HasSpanIn source)
    → IfOk (answer_of r) (IsReadFrom (anchored regexp)) × IfErr (answer_of r) (λ fault. IsBuilt regexp (Err fault))
told regexp source (Ok r) is of by read refusal kind span = ((of ∙ is, by, read), tt)
told regexp source (Err (Syntax e)) is of by read refusal kind span = (tt, (Syntax e, λ same. cc, failed source (anchored regexp) (Syntax e) is refusal kind span))
told regexp source (Err CompiledTooBig) is of by read refusal kind span = (tt, (CompiledTooBig, λ same. cc, failed source (anchored regexp) CompiledTooBig is refusal kind span))
told regexp source (Err Internal) is of by read refusal kind span = (tt, (Internal, λ same. cc, failed source (anchored regexp) Internal is refusal kind span))
told regexp source (Err OutOfMemory) is of by read refusal kind span = (tt, tt)

-- what is read from a text between anchors is built for the text
pub built : (regexp : List ℕ) (r : Regex) → IsReadFrom (anchored regexp) r → IsBuilt regexp (Ok (pattern (regex_pattern r)))
built regexp r read =
    let hir = r.pattern.program.hir in
    let names = names_of r.pattern.names.items in
    let by_default : Reads default_config (regex_source r) hir names = subst (λ (config : Config). Reads config (regex_source r) hir names) read.1 read.2 in
    let of_text : Reads default_config (anchored regexp) hir names = subst (λ (source : List ℕ). Reads default_config source hir names) read.0 by_default in
    (regex_pattern r, (hir, names, of_text, refl), refl)

module _ (patterns : BTreeMap (String Global) (Rc Compiled Global)) where
  -- a copy of the pattern that is found at a text
  pub found : (regexp : List ℕ) (regex copy : Rc Compiled Global) → AreRead patterns → Some regex ≡ get_by_text patterns regexp → copy.value ≡ regex.value → IsReadFrom (anchored regexp) copy.value.regex.now
  found regexp regex copy read is same =
      let P : Option (Rc Compiled Global) → Type 0 = λ o. IfSome o (λ r. IsReadFrom (anchored regexp) r.value.regex.now) in
      let here : IsReadFrom (anchored regexp) regex.value.regex.now = subst P (sym is) (read regexp) in
      subst (λ (r : Compiled). IsReadFrom (anchored regexp) r.regex.now) (sym same) here

  either : (b : Bool) (regexp q : List ℕ) (regex : Rc Compiled Global) (o : Option (Rc Compiled Global)) → (b ≡ true → regexp ≡ q) → IsReadFrom (anchored regexp) regex.value.regex.now
      → IfSome o (λ r. IsReadFrom (anchored q) r.value.regex.now) → IfSome (cond b (Some regex) o) (λ r. IsReadFrom (anchored q) r.value.regex.now)
  either true regexp q regex o is here there = subst (λ (t : List ℕ). IsReadFrom (anchored t) regex.value.regex.now) (is refl) here
  either false regexp q regex o is here there = there

  -- one more pattern, or where memory is wanting the same ones
  pub kept : {X E : Type 0} (r : Result X E) (new : BTreeMap (String Global) (Rc Compiled Global)) (text : String Global) (regex : Rc Compiled Global)
      → OnOk r (Updates string_cmp patterns new text (Some regex)) → OnErr r (IsUnchanged patterns new) → IsReadFrom (anchored (string_bytes text)) regex.value.regex.now → AreRead patterns → AreRead new
  kept (Ok x) new text regex updates same here read = λ q.
      rw (btree_map_updates_text (string_bytes text) patterns new (Some regex) updates q)
      (either (bytes_eq (string_bytes text) q) (string_bytes text) q regex (get_by_text patterns q) (bytes_eq-Decides (string_bytes text) q).0 here (read q))
  kept (Err e) new text regex updates same here read = λ q. rw same (read q)
