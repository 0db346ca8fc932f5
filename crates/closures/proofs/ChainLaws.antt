-- Which trees are variables.
use Rattle.std.proofs.Common.{◌≡◌, ⊎_elim, ℕ, zero, suc, ◌+◌, ◌-◌, ◌<◌, List, [], ◌∷◌, ◌++◌, length, reverse, Some, None, refl, sym, ◌∙◌, ap, subst, arith}
use Rattle.std.proofs.lemmas.List.{reverse-append}
use Rattle.trees.specs.Trees.{Var, count_of}
use Rattle.trees.specs.Things.{ATree, Meanings, both, instance_of}
use Rattle.rows.specs.declared.views.SubId.{SubId}
use Rattle.rows.specs.declared.views.TermId.{TermId}
use Rattle.rows.specs.Views.{IsSubst, IsTree}
use Rattle.closures.specs.Environments.{Waiting, waiting}
use Rattle.closures.specs.Closures.{variable_meaning, delays, under, IsPassed, raised_list}
use Rattle.closures.specs.declared.environments.Delayed.TheVariants.{Under}
use Rattle.closures.specs.declared.notes.Source.{Source}
use Rattle.closures.specs.declared.notes.Source.TheVariants as source
use Rattle.closures.specs.declared.notes.Notes.{Notes}
use Rattle.closures.specs.Notes.{noted, IsNoted}
use Rattle.closures.specs.declared.chains.Wait.{Wait}
use Rattle.closures.specs.declared.chains.Wait.TheVariants as wait
use Rattle.closures.specs.Chains.{Sends, IsVariable, Becomes, IsSource, AreRight, Leads}
use Rattle.closures.proofs.VariableLaws.{IsPush, IsThen, step-past, step-raised, step-next, step-here, step-then}
use Rattle.closures.proofs.HeadLaws.{instance-opens}

pub sends-past : (f : Meanings) (row : SubId) (i past : ℕ) → IsSubst (f row.0) → IsPassed (f row.0) 0 i (Some past) → Sends f row i past
sends-past f row i past s passes =
    let d = s.0 in
    let p = subst (λ o. IsPassed o 0 i (Some past)) s.1 passes in
    record {
      sends = λ n ws.
          step-past f row n (n + i) d ws s.1 (omega (arith, p.0))
          ∙ ap (variable_meaning f ws) (let e : n + i - count_of d.pushed + d.shift ≡ n + past = omega (arith, p.0, p.1) in e);
    }

raised-variable : (f : Meanings) (n k : ℕ) (ws : List Waiting) → variable_meaning f (raised_list n ws) k ≡ variable_meaning f ws (n + k)
raised-variable f zero k ws = ap (variable_meaning f ws) (let e : k ≡ 0 + k = omega arith in e)
raised-variable f (suc n) k ws = step-raised f 0 (suc n) k ws (omega arith) ∙ ap (variable_meaning f ws) (let e : k + suc n ≡ suc n + k = omega arith in e)

-- the tree that was pushed last is a variable
pub sends-here : (f : Meanings) (row next : SubId) (tree : TermId) (k : ℕ) → IsPush f row.0 next.0 tree.0 → IsVariable f tree k → Sends f row 0 k
sends-here f row next tree k p var = record {
  sends = λ n ws.
      ap (variable_meaning f (waiting n (Under row) ∷ ws)) (let e : n + 0 ≡ n = omega arith in e)
      ∙ step-here f row next tree n ws p
      ∙ var.is (raised_list n ws)
      ∙ raised-variable f n k ws;
}

pub sends-next : (f : Meanings) (row next : SubId) (tree : TermId) (i j : ℕ) → 0 < i → IsPush f row.0 next.0 tree.0 → Sends f next (i - 1) j → Sends f row i j
sends-next f row next tree i j pos p s = record {
  sends = λ n ws.
      step-next f row next tree n (n + i) ws (omega arith) p
      ∙ ap (variable_meaning f (waiting n (Under next) ∷ ws)) (let e : n + i - 1 ≡ n + (i - 1) = omega arith in e)
      ∙ s.sends n ws;
}

pub sends-then : (f : Meanings) (row first second : SubId) (i j k : ℕ) → IsThen f row.0 first.0 second.0 → Sends f first i j → Sends f second j k → Sends f row i k
sends-then f row first second i j k p s t = record {
  sends = λ n ws.
      step-then f row first second n (n + i) ws p
      ∙ s.sends n (waiting n (Under second) ∷ ws)
      ∙ t.sends n ws;
}

pub variable-row : (f : Meanings) (tree : TermId) (k : ℕ) → f tree.0 ≡ Some (ATree (Var k)) → IsVariable f tree k
variable-row f tree k is = record { is = λ ws. ap (λ o. under o (delays f ws)) is }

pub variable-instance : (f : Meanings) (tree inner : TermId) (row : SubId) (j k : ℕ) → IsTree (f tree.0) → f tree.0 ≡ both instance_of (f inner.0) (f row.0) → IsVariable f inner j → Sends f row j k → IsVariable f tree k
variable-instance f tree inner row j k t is var s = record {
  is = λ ws.
      sym (instance-opens f (f tree.0) inner row ws t is).meaning
      ∙ var.is (waiting 0 (Under row) ∷ ws)
      ∙ ap (variable_meaning f (waiting 0 (Under row) ∷ ws)) (let e : j ≡ 0 + j = omega arith in e)
      ∙ s.sends 0 ws
      ∙ ap (variable_meaning f ws) (let e : 0 + k ≡ k = omega arith in e);
}

-- what waits

pub leads-root : (f : Meanings) (root : Source) → IsSource f root → Leads f root [] root
leads-root f root s = record { stands = s; ends = λ j becomes. becomes }

pub leads-next : (f : Meanings) (root : Source) (row next : SubId) (tree : TermId) (i : ℕ) (ws : List Wait) → IsPush f row.0 next.0 tree.0 → 0 < i → Leads f root ws (source.Entry row i) → Leads f root ws (source.Entry next (i - 1))
leads-next f root row next tree i ws p pos leads = record {
  stands = (p.rest, p.next_is);
  ends = λ j becomes. leads.ends j (sends-next f row next tree i j pos p becomes);
}

pub leads-here : (f : Meanings) (root : Source) (row next : SubId) (tree : TermId) (i : ℕ) (ws : List Wait) → IsPush f row.0 next.0 tree.0 → i ≡ 0 → Leads f root ws (source.Entry row i) → Leads f root ws (source.Tree tree)
leads-here f root row next tree i ws p zero_is leads = record {
  stands = (p.pushed, p.tree_is);
  ends = λ j becomes. leads.ends j (subst (λ k. Sends f row k j) (sym zero_is) (sends-here f row next tree j p becomes));
}

pub leads-then : (f : Meanings) (root : Source) (row first second : SubId) (i : ℕ) (ws : List Wait) → IsThen f row.0 first.0 second.0 → Leads f root ws (source.Entry row i) → Leads f root (wait.Next second ∷ wait.Note (source.Entry row i) ∷ ws) (source.Entry first i)
leads-then f root row first second i ws p leads = record {
  stands = (p.before, p.first_is);
  ends = λ j becomes. (
    (p.after, p.second_is),
    λ k then.
        let both : Sends f row i k = sends-then f row first second i j k p becomes then in
        (both, leads.ends k both),
  );
}

pub leads-instance : (f : Meanings) (root : Source) (tree inner : TermId) (row : SubId) (ws : List Wait) → IsTree (f tree.0) → f tree.0 ≡ both instance_of (f inner.0) (f row.0) → Leads f root ws (source.Tree tree) → Leads f root (wait.Next row ∷ wait.Note (source.Tree tree) ∷ ws) (source.Tree inner)
leads-instance f root tree inner row ws t is leads =
    let o = instance-opens f (f tree.0) inner row [] t is in
    record {
      stands = o.tree;
      ends = λ j becomes. (
        o.subst,
        λ k then.
            let both : IsVariable f tree k = variable-instance f tree inner row j k t is becomes then in
            (both, leads.ends k both),
      );
    }

-- two more wait
pub waits-then : (items one two : List Wait) (note next : Wait) → one ≡ items ++ note ∷ [] → two ≡ one ++ next ∷ [] → reverse two ≡ next ∷ note ∷ reverse items
waits-then items one two note next a b =
    ap reverse b ∙ reverse-append one (next ∷ []) ∙ ap (λ xs. next ∷ reverse xs) a ∙ ap (λ xs. next ∷ xs) (reverse-append items (note ∷ []))

-- one less waits
pub waits-less : (items rest : List Wait) (last : Wait) → items ≡ rest ++ last ∷ [] → reverse items ≡ last ∷ reverse rest
waits-less items rest last is = ap reverse is ∙ reverse-append rest (last ∷ [])

pub notes-right : (f : Meanings) (at : Source) (index : ℕ) (old new : Notes) → IsNoted at index old new → Becomes f at index → AreRight f old → AreRight f new
notes-right f at index old new noted_is becomes right m j is =
    ⊎_elim
    (λ before. right m j before)
    (λ here. subst (λ k. Becomes f m k) (sym here.1) (subst (λ x. Becomes f x index) (sym here.0) becomes))
    (noted_is m j is)

pub none-wait : (items : List Wait) (len : ℕ) → len ≡ length items → len ≡ 0 → reverse items ≡ []
none-wait [] len is none = refl
none-wait (w ∷ ws) len is none = absurd (omega arith)

-- no notes are right
pub none-right : (f : Meanings) (notes : Notes) → ((m : Source) → noted notes m ≡ None) → AreRight f notes
none-right f notes none m j is = let wrong : None ≡ Some j = sym (none m) ∙ is in cc
