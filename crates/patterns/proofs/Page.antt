-- The examples of docs/SUBSTITUTION.md.
use Rattle.std.proofs.Common.{◌≡◌, ℕ, ◌^◌, ◌<◌, ◌≤◌, [], ◌∷◌, refl, ◌∙◌, ap, arith}
use Rattle.trees.specs.declared.op.Op.{Op}
use Rattle.trees.specs.Operators.{binds_of}
use Rattle.trees.specs.Trees.{Tree, NoTrees, More, Var, Make, Subst, apply, push, then, id}
use Rattle.trees.specs.Judgements.{Context, Judgement, trees}
use Rattle.trees.specs.Language.{Tm}
use Rattle.trees.specs.Things.{ATree, ASubst, AContext}
use Rattle.substitution.specs.Forms.{at, lift}
use Rattle.substitution.specs.Action.{look}
use Rattle.trees.specs.Trees.{greatest_shift}
use Rattle.substitution.specs.Delayed.{here, closed, deeper}
use Rattle.substitution.proofs.Maps.{rename, replace, rename-replace}
use Rattle.substitution.proofs.ThenLaws.{apply-replace, look-then, then-assoc}
use Rattle.substitution.proofs.ActionLaws.{act_alike-lift, act_alike-push_shift_by}
use Rattle.substitution.proofs.ShiftBounds.{shift-then-bound}
use Rattle.substitution.proofs.Closures.{closed-make}
use Rattle.patterns.specs.Patterns.{patterns, Part, Under, SubstPart, ContextPart, JudgementPattern}
use Rattle.patterns.specs.Values.{Parts, parts_of, judgement_of, judged_of}
use Rattle.patterns.specs.Normals.{normals}
use Rattle.patterns.specs.Fillings.{Fits, filled_judgement}
use Rattle.patterns.proofs.Soundness.{same_tree-sound, same_judgement-sound, filled-judged_of}

-- two trees, at parts that are known as variables only
example-trees : (B a : Tree) (d : Subst) → apply (at trees B a) d ≡ at trees (apply B (lift trees d)) (apply a d)
example-trees B a d =
    same_tree-sound (parts_of (ATree B ∷ ATree a ∷ ASubst d ∷ []))
    (Under (at patterns (Part 0) (Part 1)) (SubstPart 2)) (at patterns (Under (Part 0) (lift patterns (SubstPart 2))) (Under (Part 1) (SubstPart 2))) refl

-- two judgements
abbrev typed : Context → Tree → Tree → Judgement
typed G a A = Tm G a A

example-judgements : (G : Context) (a B : Tree) (d : Subst) → typed G (apply a d) (apply (at trees B a) d) ≡ typed G (apply a d) (at trees (apply B (lift trees d)) (apply a d))
example-judgements G a B d =
    same_judgement-sound (parts_of (AContext G ∷ ATree a ∷ ATree B ∷ ASubst d ∷ []))
    (Tm (ContextPart 0) (Under (Part 1) (SubstPart 3)) (Under (at patterns (Part 2) (Part 1)) (SubstPart 3)))
    (Tm (ContextPart 0) (Under (Part 1) (SubstPart 3)) (at patterns (Under (Part 2) (lift patterns (SubstPart 3))) (Under (Part 1) (SubstPart 3)))) refl

-- two substitutions with one list and one shift
example-substs : (c d e f : Subst) → then (then (then c d) e) f ≡ then c (then d (then e f))
example-substs c d e f = then-assoc (then c d) e f ∙ then-assoc c d (then e f)

-- two substitutions that act alike
example-action : (t : Tree) → apply t (lift trees (lift trees id)) ≡ apply t (lift trees id)
example-action t = act_alike-lift (lift trees id) id (act_alike-push_shift_by 0) t

-- something that holds of every tree, along functions of the index
example-functions : (t : Tree) (d : Subst) (f : ℕ → ℕ) → rename (apply t d) f ≡ replace t (λ k. rename (look d k) f)
example-functions t d f =
    ap (λ u. rename u f) (apply-replace t d) ∙ rename-replace t (look d) f

-- an index
example-index : (d e : Subst) → look (then (push d (Var 3)) e) 0 ≡ look e 3
example-index d e = look-then (push d (Var 3)) e 0

-- a tree under delayed substitutions
example-delayed : (op : Op) (t : Tree) (d : Subst) → closed (Make op (More t NoTrees)) (here d ∷ []) ≡ Make op (More (closed t (deeper (binds_of op 0) (here d ∷ []))) NoTrees)
example-delayed op t d = closed-make op (More t NoTrees) (here d ∷ [])

-- what fits a number of the program
example-bound : (d e : Subst) → d.shift ≤ greatest_shift → e.shift ≤ greatest_shift → (then d e).shift < 2 ^ 64
example-bound d e hd he = let h = shift-then-bound d e in omega arith

-- a pattern read at normal terms, as a table of rows has them
example-rows : (v : Parts trees) (u : Parts normals) (w : Parts trees) → Fits v u w → (j : JudgementPattern) → filled_judgement v (judged_of normals u j) ≡ judgement_of w j
example-rows v u w fits j = filled-judged_of v u w fits j
