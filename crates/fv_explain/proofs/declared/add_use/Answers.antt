use Rattle.std.proofs.Common.{◌≡◌, ◌≤◌, ◌+◌, ◌-◌, ◌++◌, ◌∷◌, ◌∙◌, ℕ, Bool, List, [], length, refl, sym, subst, arith}
use Rattle.std.proofs.lemmas.List.{length_push}
use Rattle.fv_declare_schema.specs.Declarations.{count_nodes}
use Rattle.fv_declare_schema.specs.PlacedView.{placed_view}
use Rattle.fv_explain.specs.Explained.{AreLinesFrom, IsPartLine, IsUseLine, TellsPart}
use Rattle.fv_explain.proofs.Adding.{adds_then, lines_push}
use Rattle.fv_explain.proofs.declared.add_use.Goals as goal

pub part_line-requires : goal.part_line-requires
part_line-requires c = let size = rw c.occurrence-occurrence.ensures at c.size-number-end.ensures in omega (arith, size)

pub loop-number-preserved : goal.loop-number-preserved
loop-number-preserved c =
    let was = c.loop-number.invariant in
    let one = c.in_ok-add-2.ensures in
    let u = placed_view c.args.placed.now in
    let few : length was.0 + 1 ≡ c.loop-number.number = was.2 in
    let size = rw c.occurrence-occurrence.ensures at c.size-number-end.ensures in
    let longer : length (was.0 ++ one.0 ∷ []) ≡ length was.0 + 1 = length_push was.0 one.0 in (
      was.0 ++ one.0 ∷ [],
      adds_then c.add.new.self c.loop-number.lines c.add-in-loop-number.new.self was.0 (one.0 ∷ []) was.1 one.1,
      omega arith,
      omega (arith, size),
      lines_push (TellsPart c.add.new.self.json u) 1 c.loop-number.number was.0 one.0 was.4 (omega arith)
          (λ plain. subst (IsPartLine u c.loop-number.number) (sym (one.2 (was.1.1 ∙ plain))) c.in_ok-line-2.ensures),
    )

pub returns : goal.returns
returns c =
    let first = c.in_ok-add.ensures in
    let was = c.loop-number.invariant in
    let u = placed_view c.args.placed.now in
    let few : length was.0 + 1 ≡ c.loop-number.number = was.2 in
    let most : length was.0 ≤ count_nodes (u.tree ∷ []) - 1 = was.3 in
    let size = rw c.occurrence-occurrence.ensures at c.size-number-end.ensures in (
      first.0 ∷ was.0,
      adds_then c.args.lines.now c.add.new.self c.loop-number.lines (first.0 ∷ []) was.0 first.1 was.1,
      record {
        first = first.0;
        parts = was.0;
        whole = refl;
        is = λ plain. subst (IsUseLine c.args.groups.now u) (sym (first.2 plain)) c.in_ok-line.ensures;
        each = omega (arith, size);
        are = subst (λ (b : Bool). AreLinesFrom 1 (TellsPart b u) was.0) first.1.1 was.4;
      },
    )
