use Rattle.behind_tests.proofs.forms.kid_row.Goals as goal

pub kid_of-requires : goal.kid_of-requires
kid_of-requires c =
    let (G, T, K, J, says, part, stands, subject) = c.requires in
    (G, T, J, says, part, stands)

pub subject_row-requires : goal.subject_row-requires
subject_row-requires c =
    let (G, T, K, J, says, part, stands, subject) = c.requires in
    (J, K, c.in_ok-kid.ensures.typed G T J says part stands, subject)

pub returns-clause-row : goal.returns-clause-row
returns-clause-row c = λ G T K J says part stands subject. c.subject_row.ensures J K (c.in_ok-kid.ensures.typed G T J says part stands) subject
