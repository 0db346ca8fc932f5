-- Judgements over a context G, moved along a substitution d : H to G.
use Rattle.std.specs.Prelude.{ℕ, zero, suc, map}
use Rattle.trees.specs.Language.{Ctx, Ty, TyEq, Tm, TmEq, Sb, IsFormula, IsFace, Holds, Alike}
use Rattle.substitution.specs.Forms.{lift_by}
use Rattle.patterns.specs.Patterns.{Pattern, Under, SubstPattern, SubstPart, Then, patterns}
use Rattle.patterns.specs.Patterns.{ContextPattern, ContextPart, Empty, AddVar, AddName, AddFace}
use Rattle.patterns.specs.Patterns.{JudgementPattern, ConditionPattern, RulePattern}

abbrev pub G : ContextPattern
G = ContextPart 0

abbrev pub H : ContextPattern
H = ContextPart 1

abbrev pub d : SubstPattern
d = SubstPart 2

-- d under so many variables and names
abbrev pub lifted : ℕ → SubstPattern
lifted n = lift_by patterns n d

-- the variables and names of a context beyond G
abbrev pub entries : ContextPattern → ℕ
entries (AddVar K A) = suc (entries K)
entries (AddName K) = suc (entries K)
entries (AddFace K p) = entries K
entries _ = zero

-- a tree of the context K, moved
abbrev pub moved_tree : ContextPattern → Pattern → Pattern
moved_tree K t = Under t (lifted (entries K))

abbrev pub moved_context : ContextPattern → ContextPattern
moved_context (ContextPart _) = H
moved_context Empty = Empty
moved_context (AddVar K A) = AddVar (moved_context K) (moved_tree K A)
moved_context (AddName K) = AddName (moved_context K)
moved_context (AddFace K p) = AddFace (moved_context K) (moved_tree K p)

-- a substitution from the context K, moved
abbrev pub moved_subst : ContextPattern → SubstPattern → SubstPattern
moved_subst K e = Then e (lifted (entries K))

abbrev pub moved_judgement : JudgementPattern → JudgementPattern
moved_judgement (Ctx K) = Ctx (moved_context K)
moved_judgement (Ty K A) = Ty (moved_context K) (moved_tree K A)
moved_judgement (TyEq K A B) = TyEq (moved_context K) (moved_tree K A) (moved_tree K B)
moved_judgement (Tm K a A) = Tm (moved_context K) (moved_tree K a) (moved_tree K A)
moved_judgement (TmEq K a b A) =
    TmEq (moved_context K) (moved_tree K a) (moved_tree K b) (moved_tree K A)
moved_judgement (Sb K e L) = Sb (moved_context K) (moved_subst K e) L

abbrev pub moved_condition : ConditionPattern → ConditionPattern
moved_condition (IsFormula K r) = IsFormula (moved_context K) (moved_tree K r)
moved_condition (IsFace K p) = IsFace (moved_context K) (moved_tree K p)
moved_condition (Holds K p) = Holds (moved_context K) (moved_tree K p)
moved_condition (Alike K e f) = Alike (moved_context K) (moved_subst K e) (moved_subst K f)

-- its premises, side conditions and conclusion, moved
abbrev pub moved : RulePattern → RulePattern
moved r = record {
  wants = map moved_judgement r.wants;
  sides = map moved_condition r.sides;
  gives = moved_judgement r.gives;
}
