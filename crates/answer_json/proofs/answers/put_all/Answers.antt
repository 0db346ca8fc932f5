use Rattle.answer_json.proofs.answers.put_all.Goals as goal

pub returns : goal.returns
returns c =
    rw (
      c.in_ok-put_text-6.ensures,
      c.in_ok-put_number-3.ensures,
      c.in_ok-put_text-5.ensures,
      c.in_ok-put_text-4.ensures,
      c.in_ok-put_text-3.ensures,
      c.in_ok-put_number-2.ensures,
      c.in_ok-put_text-2.ensures,
      c.in_ok-put_number.ensures,
      c.in_ok-put_text.ensures,
      c.word.ensures,
    ) at c.put_text-7.ensures
