use Rattle.std.proofs.Common.{rules}
use Rattle.outcomes.proofs.outcome.Outcome.text.Goals.{in-Judged-Yes+in_ok-made-in-Judged-Yes, in-Judged-No+in_ok-made-in-Judged-No, in-RootDiffers+in_ok-made-in-RootDiffers, in-Refused+in_ok-made-in-Refused, in-Refuted+in_ok-text-in-Refuted+in_ok-lines-in-Refuted+in_ok-push_str-in-Refuted, in-MissingFile+in_ok-made-in-MissingFile, in-Checked+in_ok-made-in-Checked, in-Shown+in_ok-made-in-Shown, in-Made+in_ok-made-in-Made, in-Spent+in_ok-place-in-Spent+in_ok-made-in-Spent}
use Rattle.outcomes.proofs.outcome.Outcome.text.Goals as goal

-- each outcome by itself
pub returns-clause-text : goal.returns-clause-text
returns-clause-text c = elim c.match-self.branch [
  | in-Judged-Yes+in_ok-made-in-Judged-Yes w ↦ search rules
  | in-Judged-No+in_ok-made-in-Judged-No w ↦ search rules
  | in-RootDiffers+in_ok-made-in-RootDiffers w ↦ search rules
  | in-Refused+in_ok-made-in-Refused w ↦ search rules
  | in-Refuted+in_ok-text-in-Refuted+in_ok-lines-in-Refuted+in_ok-push_str-in-Refuted w ↦ search rules
  | in-MissingFile+in_ok-made-in-MissingFile w ↦ search rules
  | in-Checked+in_ok-made-in-Checked w ↦ search rules
  | in-Shown+in_ok-made-in-Shown w ↦ search rules
  | in-Made+in_ok-made-in-Made w ↦ search rules
  | in-Spent+in_ok-place-in-Spent+in_ok-made-in-Spent w ↦ search rules
]
