use Rattle.std.proofs.Common.{◌≡◌, ◌<◌, List, ℕ, length, map, slice_index_or, sym, ◌∙◌, ap, subst}
use Rattle.std.proofs.lemmas.List.{get_or-map, length-map}
use Rattle.syntax.specs.View.{def_items}
use Rattle.module_texts.specs.declared.text.ModuleText.{ModuleText}
use Rattle.module_texts.specs.Texts.{text_of}
use Rattle.session.specs.Places.{places_in}
use Rattle.session.proofs.PlaceLaws.{Looks, count_in, one_read, looks_found, looks_inside, looks_on}
use Rattle.session.proofs.places.holder.Goals as goal
use Rattle.session.proofs.places.holder.Goals.{After-as_slice-count}

-- the definitions of the module that is looked at
counted : (c : After-as_slice-count) → length c.as_slice-count.result.now ≡ length (places_in (text_of c.index-texts-number.result))
counted c =
    ap length c.as_slice-count.ensures ∙ ap (λ (x : ModuleText). length (def_items x.module.defs)) (sym c.index-texts-number.is)
    ∙ count_in c.index-texts-number.result

-- the module at a place of a list
inside : (texts : List ModuleText) (place number left : ℕ) → Looks (map text_of texts) place number left → number < length texts
inside texts place number left looks = subst (λ n. number < n) (length-map texts text_of) (looks_inside (map text_of texts) place number left looks)

read_as : (texts : List ModuleText) (number : ℕ) (x : ModuleText) → number < length texts → x ≡ slice_index_or texts number x → text_of x ≡ slice_index_or (map text_of texts) number (text_of x)
read_as texts number x l is = ap text_of is ∙ sym (get_or-map text_of texts number x (text_of x) l)

pub returns-then-left-count : goal.returns-then-left-count
returns-then-left-count c =
    let d = (goal.at.returns-then-left-count c).After-as_slice-count in
    let texts = c.args.texts.now in
    let l = c.loop-left in
    let x = c.index-texts-number.result in
    let within = inside texts c.args.place l.number l.left l.invariant in
    let found = looks_found (map text_of texts) c.args.place l.number l.left (length c.as_slice-count.result.now) (text_of x) l.invariant
    (looks_inside (map text_of texts) c.args.place l.number l.left l.invariant) (read_as texts l.number x within c.index-texts-number.is) (counted d) c.if-left-count.true in
    (found.0, found.1, found.2 ∙ ap text_of (one_read texts l.number x c.index-texts-number-then-left-count.result within c.index-texts-number.is c.index-texts-number-then-left-count.is))

pub loop-left-preserved : goal.loop-left-preserved
loop-left-preserved c =
    let d = (goal.at.loop-left-preserved c).After-as_slice-count in
    let texts = c.args.texts.now in
    let l = c.loop-left in
    let x = c.index-texts-number.result in
    let within = inside texts c.args.place l.number l.left l.invariant in
    looks_on (map text_of texts) c.args.place l.number l.left (length c.as_slice-count.result.now) (text_of x) l.invariant
    (looks_inside (map text_of texts) c.args.place l.number l.left l.invariant) (read_as texts l.number x within c.index-texts-number.is) (counted d) c.if-left-count.false
