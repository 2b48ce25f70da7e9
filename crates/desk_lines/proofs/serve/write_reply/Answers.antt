use Rattle.desk_lines.proofs.serve.write_reply.Goals as goal

pub returns-in-WantOfMemory-clause-err : goal.returns-in-WantOfMemory-clause-err
returns-in-WantOfMemory-clause-err g c =
    rw (c.in-WantOfMemory.is, ← c.want_of_memory_line.ensures, ← c.as_bytes-in-WantOfMemory.ensures.value)
    c.write_text-in-WantOfMemory.ensures.err
