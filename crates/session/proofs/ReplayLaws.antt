-- When a replay may end so.
use Rattle.std.proofs.Common.{◌≡◌, ℕ, List, sym, ap, Option, Some, None, Result, Ok, Err, IfOk}
use Rattle.std.specs.Option.{option_map, option_copied}
use denote.Ref.{Bor}
use Rattle.host_io.specs.Files.{Held, HoldsAt}
use Rattle.host_io.specs.Seen.{SeenFiles}
use Rattle.trees.specs.Judgements.{Judgement}
use Rattle.translation.specs.Translated.{judgements_of}
use Rattle.session.specs.declared.program.Program.{Program}
use Rattle.resolver.specs.Resolved.{defs_in}
use Rattle.outcomes.specs.declared.outcome.Outcome.{Outcome}
use Rattle.outcomes.specs.declared.outcome.Outcome.TheVariants as outcome
use Rattle.session.specs.Modules.{Spells}
use Rattle.session.specs.Loaded.{IsProgram, codes_of, stated_by, texts_of, wanted_by}
use Rattle.session.specs.Counted.{IsCounted}
use Rattle.session.specs.Answers.{IsFound, IsReplayed, MayReplay, replayed}

-- these judgements are wanted: none, or those that the module spells
abbrev pub Wants : Option Held → Option (List ℕ) → Option (List Judgement) → Type 0
Wants held None None = Unit {0}
Wants held (Some name) (Some Js) = Spells held name Js
Wants held _ _ = ⊥

pub may_replay : (held : Option Held) (path : List ℕ) (of : Option (List ℕ)) (wanted : Option (List Judgement)) (told : Outcome) → Wants held of wanted → IsReplayed held path wanted told → MayReplay held path of told
may_replay held path None None told w r = r
may_replay held path None (Some Js) told w r = absurd w
may_replay held path (Some name) None told w r = absurd w
may_replay held path (Some name) (Some Js) told w r = replayed Js w r

-- those that a module spells, where there is one
abbrev pub wanted_of : Option Program → Option (List Judgement)
wanted_of = option_map (λ program. judgements_of (stated_by (defs_in program.codes)))

pub wanted_same : (o : Option (Bor Program)) (program : Option Program) → option_copied o ≡ program → wanted_of program ≡ wanted_by (codes_of o)
wanted_same None program e = ap wanted_of (sym e)
wanted_same (Some p) program e = ap wanted_of (sym e)

-- the module's definitions spell these
pub spelt : (name : List ℕ) (old new : SeenFiles) (program : Program) → IsProgram name old new (Ok program) → Spells old.held name (judgements_of (stated_by (defs_in program.codes)))
spelt name old new program p = let is = p.1 in
    record { texts = texts_of program; loaded = is.loaded; fine = is.linked.fine; spelt = is.linked.judgements_are }

-- what is found of the bytes that the path holds
pub replay_found : (held : Option Held) (path : List ℕ) (wanted : Option (List Judgement)) (bytes : List ℕ) (told : Outcome) → HoldsAt held path (Some bytes) → IsFound bytes wanted told → IsReplayed held path wanted told
replay_found held path wanted bytes (outcome.Judged v) h f = (bytes, h, f)
replay_found held path wanted bytes (outcome.RootDiffers k) h f = (bytes, h, f)
replay_found held path wanted bytes (outcome.Refused r) h f = (bytes, h, f)
replay_found held path wanted bytes (outcome.Refuted r shown) h f = (bytes, h, f)
replay_found held path wanted bytes (outcome.Shown text) h f = (bytes, h, f)
replay_found held path wanted bytes (outcome.Made text ds k) h f = (bytes, h, f)
replay_found held path wanted bytes (outcome.Spent turns at told) h f = (bytes, h, f)
replay_found held path wanted bytes outcome.Usage h f = (bytes, h, f)
replay_found held path wanted bytes (outcome.Checked n) h f = (bytes, h, f)
replay_found held path wanted bytes outcome.WriteFault h f = (bytes, h, f)
replay_found held path None bytes (outcome.MissingFile p) h f = absurd f
replay_found held path (Some Js) bytes (outcome.MissingFile p) h f = absurd f
replay_found held path None bytes outcome.ReadFault h f = absurd f
replay_found held path (Some Js) bytes outcome.ReadFault h f = absurd f

found_counted : (old new : SeenFiles) (wanted : Option (List Judgement)) (bytes : List ℕ) (told : Outcome) → new.counts ≡ old.counts → IsFound bytes wanted told → IsCounted old new told
found_counted old new wanted bytes (outcome.Judged v) c f = c
found_counted old new wanted bytes (outcome.RootDiffers k) c f = c
found_counted old new wanted bytes (outcome.Refused r) c f = c
found_counted old new wanted bytes (outcome.Refuted r shown) c f = c
found_counted old new wanted bytes (outcome.Shown text) c f = c
found_counted old new wanted bytes (outcome.Made text ds k) c f = c
found_counted old new wanted bytes (outcome.Spent turns at told) c f = c
found_counted old new wanted bytes outcome.Usage c f = c
found_counted old new wanted bytes (outcome.Checked n) c f = c
found_counted old new None bytes outcome.WriteFault c f = absurd f
found_counted old new (Some Js) bytes outcome.WriteFault c f = absurd f
found_counted old new None bytes (outcome.MissingFile p) c f = absurd f
found_counted old new (Some Js) bytes (outcome.MissingFile p) c f = absurd f
found_counted old new None bytes outcome.ReadFault c f = absurd f
found_counted old new (Some Js) bytes outcome.ReadFault c f = absurd f

pub all_found : {E : Type 0} (held : Option Held) (path : List ℕ) (of : Option (List ℕ)) (wanted : Option (List Judgement)) (bytes : List ℕ) (old new : SeenFiles) (r : Result Outcome E) → Wants held of wanted → HoldsAt held path (Some bytes) → new.counts ≡ old.counts → IfOk r (IsFound bytes wanted) → IfOk r (λ o. MayReplay held path of o × IsCounted old new o)
all_found held path of wanted bytes old new (Ok told) w h c f =
    (may_replay held path of wanted told w (replay_found held path wanted bytes told h f), found_counted old new wanted bytes told c f)
all_found held path of wanted bytes old new (Err e) w h c f = tt
