use Rattle.std.proofs.Common.{◌≡◌, false, subst, ap, ◌∙◌}
use Rattle.fv_declare_schema.specs.Declarations.{Declarations}
use Rattle.fv_engine.proofs.EngineExports.{export_cause, export_done, export_frame, export_front, export_keeps, export_same, export_untouched}
use Rattle.fv_bundle.specs.Types.{Declared, has_deep}
use Rattle.fv_store.specs.Stock.{stock_state}
use Rattle.fv_engine.proofs.engine.Engine.export.Goals as goal

pub returns-clause-same : goal.returns-clause-same
returns-clause-same g c = export_same (stock_state g.S.Store) (g.R.RuleSet.known c.self.inside.rules) c.self.inside.book c.self.inside.store c.export_store.new.store c.args.self.now c.self.view_is c.export_store.ensures.text c.export_store.ensures.reads

pub returns-clause-frame : goal.returns-clause-frame
returns-clause-frame g c = export_frame (stock_state g.S.Store) (g.R.RuleSet.known c.self.inside.rules) c.self.inside.book c.self.inside.store c.export_store.new.store c.args.self.now c.self.view_is c.export_store.ensures.text c.export_store.ensures.reads

pub returns-clause-keeps : goal.returns-clause-keeps
returns-clause-keeps g c = export_keeps (stock_state g.S.Store) (g.R.RuleSet.known c.self.inside.rules) c.self.inside.book c.self.inside.store c.export_store.new.store c.args.self.now c.self.view_is c.export_store.ensures.text c.export_store.ensures.reads

pub returns-clause-untouched : goal.returns-clause-untouched
returns-clause-untouched g c = export_untouched (stock_state g.S.Store) (g.R.RuleSet.known c.self.inside.rules) c.self.inside.book c.self.inside.store c.export_store.new.store c.args.self.now c.self.view_is c.export_store.ensures.text c.export_store.ensures.reads

pub returns-clause-exported : goal.returns-clause-exported
returns-clause-exported g c =
    let shallow = subst (λ (ts : Declared). has_deep ts ≡ false) (c.types.ensures ∙ ap (λ (d : Declarations). d.types) c.schema.ensures) c.are_shallow.ensures in
    λ clean. export_done (stock_state g.S.Store) (g.R.RuleSet.known c.self.inside.rules) c.self.inside.book c.self.inside.store c.export_store.new.store c.args.self.now c.self.view_is c.export_store.ensures.text c.export_store.ensures.reads (g.O.Output.contents c.args.out.now) (g.O.Output.contents c.export_store.new.out) c.export_store.result c.export_store.ensures.wrote shallow clean

pub returns-clause-front : goal.returns-clause-front
returns-clause-front g c =
    let shallow = subst (λ (ts : Declared). has_deep ts ≡ false) (c.types.ensures ∙ ap (λ (d : Declarations). d.types) c.schema.ensures) c.are_shallow.ensures in
    λ clean. export_front (stock_state g.S.Store) (g.R.RuleSet.known c.self.inside.rules) c.self.inside.book c.self.inside.store c.export_store.new.store c.args.self.now c.self.view_is c.export_store.ensures.text c.export_store.ensures.reads (g.O.Output.contents c.args.out.now) (g.O.Output.contents c.export_store.new.out) c.export_store.result c.export_store.ensures.wrote shallow clean

pub returns-clause-cause : goal.returns-clause-cause
returns-clause-cause g c =
    let shallow = subst (λ (ts : Declared). has_deep ts ≡ false) (c.types.ensures ∙ ap (λ (d : Declarations). d.types) c.schema.ensures) c.are_shallow.ensures in
    λ clean. export_cause (stock_state g.S.Store) (g.R.RuleSet.known c.self.inside.rules) c.self.inside.book c.self.inside.store c.export_store.new.store c.args.self.now c.self.view_is c.export_store.ensures.text c.export_store.ensures.reads (g.O.Output.contents c.args.out.now) (g.O.Output.contents c.export_store.new.out) c.export_store.result c.export_store.ensures.wrote shallow clean
