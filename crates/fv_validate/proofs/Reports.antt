-- The reports of violations.
use Rattle.std.proofs.Common.{◌≡◌, ◌↔◌, ℕ, List, [], ◌∷◌, Option, Some, None, slice_get, Result, Ok, Err, IfOk, String, string_bytes, map, refl, sym, ap, subst, ◌∙◌, inl, inr}
use Rattle.std.specs.List.{AllByRecursion}
use Rattle.std.specs.Option.{option_map_or}
use Rattle.std.specs.declared.alloc.AllocError.{AllocError}
use Rattle.std.specs.declared.alloc.Global.{Global}
use Rattle.fv_declare_schema.specs.Declarations.{Placed}
use Rattle.fv_graph.specs.Graph.{IsIn}
use Rattle.fv_path.specs.Paths.{IsPath}
use Rattle.fv_path.proofs.Joined.{text_same}
use Rattle.fv_graph.proofs.Images.{in_map, from_map}
use Rattle.fv_constraint_tree.specs.Nodes.{Node}
use Rattle.fv_datum.specs.Attributes.{Attributes}
use Rattle.fv_message.specs.Evaluated.{full_text}
use Rattle.fv_message.specs.Full.{IsTextOf}
use Rattle.fv_message.specs.Table.{Messages}
use Rattle.fv_message.proofs.Becoming.{text_is}
use Rattle.fv_walk_traces.specs.Violations.{Violation}
use Rattle.fv_validate.specs.Listing.{key_of, made_by, AreToldApart, IsMade}
use Rattle.fv_walk.specs.Apart.{AreApart}
use Rattle.fv_validate.specs.Violations.{Reported, nodes_in, IsMessageOf, IsReport, IsReportOf, AreInOrder, AreListed}

-- what holds of each member holds of all
all_of : {X : Type 0} (P : X → Type 0) (xs : List X) → ((x : X) → IsIn xs x → P x) → AllByRecursion P xs
all_of P [] each = tt
all_of P (x ∷ xs) each = (each x (inl refl), all_of P xs (λ y is_in. each y (inr is_in)))

one_of : {X : Type 0} (P : X → Type 0) (xs : List X) (x : X) → AllByRecursion P xs → IsIn xs x → P x
one_of P [] x all is_in = absurd is_in
one_of P (y ∷ ys) x all (inl e) = subst P e all.0
one_of P (y ∷ ys) x all (inr is_in) = one_of P ys x all.1 is_in

-- a report is the one that the function makes
pub report_is : (us : List Placed) (ms : Messages) (v : Violation) (r : Reported) → IsReport us ms v r → r ≡ made_by us ms v
report_is us ms v r report = λ k. record {
  path = report.path k;
  constraint = report.constraint k;
  occurrence = report.occurrence k;
  message = go (slice_get (nodes_in us) v.node) report.message k;
  value = report.value k;
}
  where
    go : (o : Option Node) → IsMessageOf ms o r.message → r.message ≡ option_map_or (λ n. full_text ms n.attributes n.message) o []
    go None h = h
    go (Some n) h = text_is ms n.attributes n.message r.message h

-- where a violation has a message, the function makes its report
pub is_made : (us : List Placed) (ms : Messages) (v : Violation) (node : Option Node) (message : List ℕ) → node ≡ slice_get (nodes_in us) v.node → IsMessageOf ms node message → IsMade us ms v
is_made us ms v node message is has = record {
  path = refl;
  constraint = refl;
  occurrence = refl;
  message = subst (λ (o : Option Node). IsMessageOf ms o (option_map_or (λ n. full_text ms n.attributes n.message) o [])) is (go node has);
  value = refl;
}
  where
    go : (o : Option Node) → IsMessageOf ms o message → IsMessageOf ms o (option_map_or (λ n. full_text ms n.attributes n.message) o [])
    go None h = refl
    go (Some n) h = subst (λ (t : List ℕ). IsTextOf ms n.attributes n.message t) (text_is ms n.attributes n.message message h) h

-- what is written is the message that the function makes
pub message_made : (ms : Messages) (attributes : Attributes) (template : List ℕ) (r : Result (String Global) AllocError) → IfOk r (λ s. IsTextOf ms attributes template (string_bytes s))
    → IfOk r (λ s. string_bytes s ≡ full_text ms attributes template)
message_made ms attributes template (Ok s) h = text_is ms attributes template (string_bytes s) h
message_made ms attributes template (Err e) h = tt

-- so there is one
pub one_report : (us : List Placed) (ms : Messages) (v : Violation) (r s : Reported) → IsReport us ms v r → IsReport us ms v s → r ≡ s
one_report us ms v r s first second = report_is us ms v r first ∙ sym (report_is us ms v s second)

module _ (us : List Placed) (ms : Messages) (fs : List Violation) where
  -- two with one path and one number report one violation, since a path is read back from its text
  pub reports_apart : AreApart fs → AllByRecursion (λ v. IsPath v.path) fs → AreToldApart (map (made_by us ms) fs)
  reports_apart apart paths v w of_v of_w same =
      let x = from_map (made_by us ms) fs v of_v in
      let y = from_map (made_by us ms) fs w of_w in
      let keys : key_of (made_by us ms x.0) ≡ key_of (made_by us ms y.0) = ap key_of (sym x.1) ∙ same ∙ ap key_of y.1 in
      let path : x.0.path ≡ y.0.path = text_same x.0.path y.0.path (one_of (λ v. IsPath v.path) fs x.0 paths x.2) (one_of (λ v. IsPath v.path) fs y.0 paths y.2)
      (ap (λ (k : List ℕ × ℕ). k.0) keys) in
      let node : x.0.node ≡ y.0.node = ap (λ (k : List ℕ × ℕ). k.1) keys in
      x.1 ∙ ap (made_by us ms) (apart x.0 y.0 x.2 y.2 path node) ∙ sym y.1

  -- the reports in order are the listing
  pub listed : (vs : List Reported) → AllByRecursion (IsMade us ms) fs → ((r : Reported) → IsIn vs r ↔ IsIn (map (made_by us ms) fs) r) → AreInOrder vs → AreListed us ms (IsIn fs) vs
  listed vs made same up = record {
    sound = all_of (IsReportOf us ms (IsIn fs)) vs (λ r is_in.
        let x = from_map (made_by us ms) fs r ((same r).0 is_in) in
        (x.0, x.2, subst (IsReport us ms x.0) (sym x.1) (one_of (IsMade us ms) fs x.0 made x.2)));
    complete = λ v is_in. (made_by us ms v, (same (made_by us ms v)).1 (in_map (made_by us ms) fs v is_in), one_of (IsMade us ms) fs v made is_in);
    ascending = up;
  }

-- a listing of the same violations
pub same_listed : (us : List Placed) (ms : Messages) (fs : List Violation) (IsOne : Violation → Type 0) (vs : List Reported) → ((v : Violation) → IsIn fs v ↔ IsOne v) → AreListed us ms (IsIn fs) vs → AreListed us ms IsOne vs
same_listed us ms fs IsOne vs same list = record {
  sound = all_of (IsReportOf us ms IsOne) vs (λ r is_in. let x = one_of (IsReportOf us ms (IsIn fs)) vs r list.sound is_in in (x.0, (same x.0).0 x.1, x.2));
  complete = λ v is_one. list.complete v ((same v).1 is_one);
  ascending = list.ascending;
}
