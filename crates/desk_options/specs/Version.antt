-- The line that tells the version.
use Rattle.std.specs.Prelude.{ℕ, List, ◌++◌, codes}
use Rattle.desk_options.specs.declared.version.TheConstants.{VERSION}

-- the program's name and its version
abbrev pub version_line : List ℕ
version_line = codes "desk " ++ (VERSION.now ++ codes "\n")
