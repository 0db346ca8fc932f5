use Rattle.std.proofs.Common.{◌≡◌, ℕ, ◌∙◌, sym, refl}
use Rattle.trees.specs.Things.{AContext}
use Rattle.trees.specs.declared.kind.PartKind.TheVariants as part
use Rattle.rows.specs.declared.held.Held.{Held}
use Rattle.rows.specs.declared.held.Held.TheVariants as held
use Rattle.rows.specs.Held.{kind_held}
use Rattle.rows.proofs.HeldLaws.{means_there}
use Rattle.rows.proofs.StoreLaws.{kind_there}
use Rattle.rows.proofs.store.RowStoreReader.context.Goals as goal

pub unreachable-requires : goal.unreachable-requires
unreachable-requires c =
    let s = c.args.self.now in
    is_context c.row.result (kind_there s.rows.items s.kids.items s.subs.items s.held c.args.id.0 c.row.result (AContext c.requires.0) c.row.ensures c.requires.1) c.in_default.not-CtxNil c.in_default.not-CtxVar c.in_default.not-CtxName c.in_default.not-CtxFace
  where
    is_context : (r : Held) → part.Context ≡ kind_held r → (r ≡ held.CtxNil → ⊥) → ((G : ℕ) (A : ℕ) → r ≡ held.CtxVar G A → ⊥) → ((G : ℕ) → r ≡ held.CtxName G → ⊥) → ((G : ℕ) (p : ℕ) → r ≡ held.CtxFace G p → ⊥) → ⊥
    is_context held.CtxNil e nil var name face = nil refl
    is_context (held.CtxVar G A) e nil var name face = var G A refl
    is_context (held.CtxName G) e nil var name face = name G refl
    is_context (held.CtxFace G p) e nil var name face = face G p refl
    is_context _ e nil var name face = cc

pub returns-in-CtxNil-clause-meaning : goal.returns-in-CtxNil-clause-meaning
returns-in-CtxNil-clause-meaning c =
    let s = c.args.self.now in
    let m = means_there s.rows.items s.kids.items s.subs.items s.held c.args.id.0 held.CtxNil c.in-CtxNil.ensures in
    m.at ∙ sym m.means

pub returns-in-CtxVar-clause-meaning : goal.returns-in-CtxVar-clause-meaning
returns-in-CtxVar-clause-meaning c =
    let s = c.args.self.now in
    let m = means_there s.rows.items s.kids.items s.subs.items s.held c.args.id.0 (held.CtxVar c.in-CtxVar.ctx c.in-CtxVar.ty) c.in-CtxVar.ensures in
    m.at ∙ sym m.means

pub returns-in-CtxVar-clause-earlier : goal.returns-in-CtxVar-clause-earlier
returns-in-CtxVar-clause-earlier c =
    let s = c.args.self.now in
    let m = means_there s.rows.items s.kids.items s.subs.items s.held c.args.id.0 (held.CtxVar c.in-CtxVar.ctx c.in-CtxVar.ty) c.in-CtxVar.ensures in
    m.earlier

pub returns-in-CtxName-clause-meaning : goal.returns-in-CtxName-clause-meaning
returns-in-CtxName-clause-meaning c =
    let s = c.args.self.now in
    let m = means_there s.rows.items s.kids.items s.subs.items s.held c.args.id.0 (held.CtxName c.in-CtxName.ctx) c.in-CtxName.ensures in
    m.at ∙ sym m.means

pub returns-in-CtxName-clause-earlier : goal.returns-in-CtxName-clause-earlier
returns-in-CtxName-clause-earlier c =
    let s = c.args.self.now in
    let m = means_there s.rows.items s.kids.items s.subs.items s.held c.args.id.0 (held.CtxName c.in-CtxName.ctx) c.in-CtxName.ensures in
    m.earlier

pub returns-in-CtxFace-clause-meaning : goal.returns-in-CtxFace-clause-meaning
returns-in-CtxFace-clause-meaning c =
    let s = c.args.self.now in
    let m = means_there s.rows.items s.kids.items s.subs.items s.held c.args.id.0 (held.CtxFace c.in-CtxFace.ctx c.in-CtxFace.face) c.in-CtxFace.ensures in
    m.at ∙ sym m.means

pub returns-in-CtxFace-clause-earlier : goal.returns-in-CtxFace-clause-earlier
returns-in-CtxFace-clause-earlier c =
    let s = c.args.self.now in
    let m = means_there s.rows.items s.kids.items s.subs.items s.held c.args.id.0 (held.CtxFace c.in-CtxFace.ctx c.in-CtxFace.face) c.in-CtxFace.ensures in
    m.earlier
