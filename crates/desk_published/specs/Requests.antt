-- What is stored of an entry whose board is held.
use Rattle.std.specs.Prelude.{ℕ, ◌==◌, ◌&&◌, Bool}
use Rattle.desk_types.specs.declared.command.Entry.{Entry}
use Rattle.desk_published.specs.declared.published.RequestId.{RequestId}

-- whose request an entry is
abbrev pub request_id : Entry → RequestId
request_id e = record { client = e.client; number = e.number }

-- it is the request of this client and number
abbrev pub is_id_of : ℕ → ℕ → RequestId → Bool
is_id_of client number r = (r.client == client) && (r.number == number)
