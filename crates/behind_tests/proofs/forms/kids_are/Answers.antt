use Rattle.std.proofs.Common.{subst}
use Rattle.trees.specs.Language.{Ty}
use Rattle.trees.specs.Things.{AContext}
use Rattle.typed_nodes.proofs.GrowthLaws.{says_later}
use Rattle.literal_types.proofs.GrowthLaws.{extends_extends}
use Rattle.literal_types.specs.Literal.{IsLiteral}
use Rattle.typed_nodes.specs.Typed.{Says}
use Rattle.behind_tests.proofs.forms.kids_are.Goals as goal

pub kids_of-requires : goal.kids_of-requires
kids_of-requires c =
    let (G, T, says, ctx) = c.requires in
    (G, T, says)

pub is_family-requires-clause-ty : goal.is_family-requires-clause-ty
is_family-requires-clause-ty c =
    let (G, T, says, ctx) = c.requires in
    let e = c.in_ok-kids_of.ensures in
    let (A, B, is, family) = subst (λ l. IsLiteral c.kids_of.new.book l G T) c.in-Pi.is (e.literal G T says) in
    (G, A, B, subst (λ t. Says c.kids_of.new.book c.args.ty (Ty G t)) is (says_later _ _ c.args.ty (Ty G T) e.extends says), e.extends.rows.keeps c.args.ctx (AContext G) ctx)

pub is_family-requires-in-Sigma-clause-ty : goal.is_family-requires-in-Sigma-clause-ty
is_family-requires-in-Sigma-clause-ty c =
    let (G, T, says, ctx) = c.requires in
    let e = c.in_ok-kids_of.ensures in
    let (A, B, is, family) = subst (λ l. IsLiteral c.kids_of.new.book l G T) c.in-Sigma.is (e.literal G T says) in
    (G, A, B, subst (λ t. Says c.kids_of.new.book c.args.ty (Ty G t)) is (says_later _ _ c.args.ty (Ty G T) e.extends says), e.extends.rows.keeps c.args.ctx (AContext G) ctx)

pub is_line-requires : goal.is_line-requires
is_line-requires c =
    let (G, T, says, ctx) = c.requires in
    let e = c.in_ok-kids_of.ensures in
    let (A, u, v, is, line) = subst (λ l. IsLiteral c.kids_of.new.book l G T) c.in-Path.is (e.literal G T says) in
    (G, A, u, v, subst (λ t. Says c.kids_of.new.book c.args.ty (Ty G t)) is (says_later _ _ c.args.ty (Ty G T) e.extends says), e.extends.rows.keeps c.args.ctx (AContext G) ctx)

pub returns-in_err-is_family-in-Pi : goal.returns-in_err-is_family-in-Pi
returns-in_err-is_family-in-Pi c = extends_extends c.in_ok-kids_of.ensures.extends c.in_err-is_family-in-Pi.ensures

pub returns-in_ok-is_family-in-Pi : goal.returns-in_ok-is_family-in-Pi
returns-in_ok-is_family-in-Pi c = extends_extends c.in_ok-kids_of.ensures.extends c.in_ok-is_family-in-Pi.ensures

pub returns-in_err-is_family-in-Sigma : goal.returns-in_err-is_family-in-Sigma
returns-in_err-is_family-in-Sigma c = extends_extends c.in_ok-kids_of.ensures.extends c.in_err-is_family-in-Sigma.ensures

pub returns-in_ok-is_family-in-Sigma : goal.returns-in_ok-is_family-in-Sigma
returns-in_ok-is_family-in-Sigma c = extends_extends c.in_ok-kids_of.ensures.extends c.in_ok-is_family-in-Sigma.ensures

pub returns-in_err-is_line-in-Path : goal.returns-in_err-is_line-in-Path
returns-in_err-is_line-in-Path c = extends_extends c.in_ok-kids_of.ensures.extends c.in_err-is_line-in-Path.ensures

pub returns-in_ok-is_line-in-Path : goal.returns-in_ok-is_line-in-Path
returns-in_ok-is_line-in-Path c = extends_extends c.in_ok-kids_of.ensures.extends c.in_ok-is_line-in-Path.ensures
