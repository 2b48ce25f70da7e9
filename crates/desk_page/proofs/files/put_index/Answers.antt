use Rattle.std.proofs.Common.{◌≡◌, ◌++◌, OnOk, subst}
use Rattle.http_server.specs.Response.{fields_of}
use Rattle.desk_page.specs.Fields.{kind_fields}
use Rattle.desk_page.proofs.files.put_index.Goals as goal

pub returns-clause-fields : goal.returns-clause-fields
returns-clause-fields c =
    subst (λ v. OnOk c.put_text.result
    (fields_of c.put_text.new.response ≡ fields_of c.args.response.now ++ kind_fields v.bytes)) c.from_static.ensures
    c.put_text.ensures.fields
