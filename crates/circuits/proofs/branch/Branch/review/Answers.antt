use Rattle.std.proofs.Common.{◌≡◌, ◌<◌, ◌++◌, ◌∷◌, [], ◌⊎◌, ap, inl, inr, ℕ, List, length, get_or, false, sym, ◌∙◌, subst, arith}
use Rattle.std.specs.List.{All}
use Rattle.std.proofs.lemmas.List.Elements.{All-same, All-push, All-get_or}
use Rattle.circuits.proofs.branch.Branch.review.Goals as goal

-- one more gate may have stayed
stayed : (P : ℕ → Type 0) (old new : List ℕ) (g : ℕ) → (new ≡ old) ⊎ (new ≡ old ++ g ∷ []) → All P old → P g → All P new
stayed P old new g which all here =
    elim which [
      | inl e ↦ All-same P new old e all
      | inr e ↦ All-same P new (old ++ g ∷ []) e (All-push P old g all here)
    ]

at_place : (P : ℕ → Type 0) (xs : List ℕ) (k g : ℕ) → k < length xs → g ≡ get_or xs k g → All P xs → P g
at_place P xs k g lt is all = subst P (sym is) (All-get_or P xs k g lt all)

pub loop-at-preserved : goal.loop-at-preserved
loop-at-preserved c =
    let i = c.loop-at.invariant in
    let e = c.in_ok-see_to.ensures in
    let g = c.index-gate.result.now in
    let as_many = ap length i.same in
    let lt : c.loop-at.at < length c.loop-at.self.unsettled.items = omega arith in
    let In : ℕ → Type 0 = λ h. h < length c.args.gates.now in
    let here : In g = at_place In c.loop-at.self.unsettled.items c.loop-at.at g lt c.index-gate.ensures (All-same In c.loop-at.self.unsettled.items c.args.self.now.unsettled.items i.same c.requires.within.unsettled) in
    record {
      known = c.see_to.ensures.known ∙ i.known;
      same = c.see_to.ensures.same ∙ i.same;
      wanted = e.wanted i.wanted;
      unsettled = stayed In c.loop-at.unsettled.items c.see_to.new.unsettled.items g e.among i.unsettled here;
      fits = λ w o f.
          let was = i.fits w o f in
          let No : ℕ → Type 0 = λ h. w h ≡ false in
          let no : No g = at_place No c.loop-at.self.unsettled.items c.loop-at.at g lt c.index-gate.ensures (was.0).unsettled in
          (e.fits w o was.0 no, stayed No c.loop-at.unsettled.items c.see_to.new.unsettled.items g e.among was.1 no);
      less = let l = e.less in let m = i.less in omega arith;
    }
