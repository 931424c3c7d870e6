-- What a text declares: its types and the roots of its forms are told by the text.
use Rattle.std.proofs.Common.{◌≡◌, ℕ, List, [], ◌∷◌, Some, Ok, map, inl, inr, sym, ap, ◌∙◌}
use Rattle.fv_declare_judging.specs.Declares.{Declares, IsAnswer, OfTrees, faults}
use Rattle.fv_declare_judging.specs.Schemas.{IsDeclared, form_declared}
use Rattle.fv_declare_judging.specs.Types.{types_declared}
use Rattle.fv_declare_judging.specs.declared.fault.DeclFault.{DeclFault}
use Rattle.fv_declare_schema.specs.Declarations.{Declarations}
use Rattle.fv_engine_machine.specs.Machines.{contents}
use Rattle.fv_registry.specs.Rules.{Known}
use Rattle.fv_store.specs.Records.{Records}

-- where it has no fault, all of its draft is declared
no_fault : (k : Known) (text : List ℕ) (fs : List DeclFault) (ds : Declarations) → IsAnswer k text fs (Ok ds) → OfTrees text (λ d ts. IsDeclared d ts ds)
no_fault k text [] ds answer = answer
no_fault k text (f ∷ fs) ds (inl (holds, never)) = cc
no_fault k text (f ∷ fs) ds (inr (fails, answer)) = no_fault k text fs ds answer

declared_so : (k : Known) (text : List ℕ) (ds : Declarations) → Declares k text (Ok ds) → OfTrees text (λ d ts. IsDeclared d ts ds)
unfolding Declares
declared_so k text ds declares = no_fault k text faults ds declares

same_there : {X : Type 0} (a b : X) → Some a ≡ Some b → a ≡ b
same_there a b e = cc

-- two that a text declares, by whatever rules, have the same contents
pub same_contents : (k l : Known) (text : List ℕ) (ds es : Declarations) (m : Records) → Declares k text (Ok ds) → Declares l text (Ok es) → contents text ds m ≡ contents text es m
same_contents k l text ds es m first second =
    let a = declared_so k text ds first in
    let b = declared_so l text es second in
    let draft : a.0 ≡ b.0 = same_there a.0 b.0 (sym a.1 ∙ b.1) in
    let types : ds.types ≡ es.types = a.2.2.types ∙ ap types_declared draft ∙ sym b.2.2.types in
    let forms : ds.forms ≡ es.forms = a.2.2.forms ∙ ap (λ d. map form_declared d.forms) draft ∙ sym b.2.2.forms in
    ap (λ ts. record { bytes = text; types = ts; roots = ds.forms; records = m }) types
    ∙ ap (λ rs. record { bytes = text; types = es.types; roots = rs; records = m }) forms
