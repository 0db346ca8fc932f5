use Rattle.deriv_file.proofs.WriteLaws.{tree_line, node_line}
use Rattle.deriv_file.proofs.write.append_row.Goals as goal

pub returns-in-Make-clause-ok : goal.returns-in-Make-clause-ok
returns-in-Make-clause-ok c =
    let appended = rw (c.as_bytes.ensures.value, c.op_name.ensures, c.as_slice.ensures) at c.append_line-in-Make.ensures.ok in
    rw (c.in-Make.is, tree_line c.in-Make.op c.in-Make.kids) appended

pub returns-in-Node-clause-ok : goal.returns-in-Node-clause-ok
returns-in-Node-clause-ok c =
    let appended = rw (c.as_bytes-in-Node.ensures.value, c.rule_name.ensures, c.as_slice-in-Node.ensures, c.as_slice-in-Node-2.ensures) at c.append_line-in-Node.ensures.ok in
    rw (c.in-Node.is, node_line c.in-Node.rule c.in-Node.parts c.in-Node.premises) appended
