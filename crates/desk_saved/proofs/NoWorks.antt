-- What a step on one of the two tables does, where nobody refers to it.
use Rattle.std.proofs.Common.{◌≡◌, ◌≢◌, ℕ, List, [], ◌∷◌, ◌&&◌, Bool, true, false, Option, Some, None, IfSome, refl}
use Rattle.std.proofs.Common.{arith, length}
use Rattle.std.specs.List.{AllByRecursion, list_any, flat_map, filter_map}
use Rattle.std.specs.Prelude.{◌==◌, if◌then◌else◌}
use Rattle.sqlite_value.specs.Order.{Row}
use Rattle.sqlite_schema.specs.declared.schema.Keys.{Keys}
use Rattle.sqlite_schema.specs.declared.schema.Schema.{Schema}
use Rattle.sqlite_schema.specs.declared.schema.Table.{Table}
use Rattle.sqlite_schema.specs.declared.schema.Reference.{Reference}
use Rattle.sqlite_schema.specs.Rules.{ParentKey, parent_key}
use Rattle.sqlite_rules.specs.declared.action.Deed.{Deed}
use Rattle.sqlite_rules.specs.Action.{Work, works, work_for, work_by, deed_for, pairs, loses}
use Rattle.desk_saved.proofs.StandingTables.{NobodyRefersTo}

module _ (schema : Schema) (keys : Keys) (tree : ℕ) (olds news : List Row) where
  none_by : (child : Table) (ref : Reference) (deed : Option Deed) (key : Option ParentKey)
      → IfSome key (λ k. k.0 ≢ tree) → work_by 0 tree (pairs olds news) child ref deed key ≡ None
  none_by child ref None key h = refl
  none_by child ref (Some deed) None h = refl
  none_by child ref (Some deed) (Some key) h = go (key.0 == tree) refl
    where
      go : (b : Bool) → (key.0 == tree) ≡ b
          → if◌then◌else◌ {A = Option Work} (b && list_any (loses key.2 key.1) (pairs olds news))
          (Some (record {
            depth = 0;
            child = child;
            ref = ref;
            places = key.1;
            order = key.2;
            deed = deed;
            moves =
                pairs olds news;
          })) None ≡ None
      go true e = let same : key.0 ≡ tree = grind arith in absurd (h same)
      go false e = refl

  none_of : (child : Table) (refs : List Reference)
      → AllByRecursion (λ ref. IfSome (parent_key schema.tables ref) (λ k. k.0 ≢ tree)) refs
      → filter_map (work_for schema keys 0 tree olds news child) refs ≡ []
  none_of child [] h = refl
  none_of child (ref ∷ refs) h =
      rw (none_by child ref (deed_for keys (length news == 0) ref) (parent_key schema.tables ref) h.0)
      (none_of child refs h.1)

  none_in : (tables : List Table)
      → AllByRecursion (λ child. AllByRecursion (λ ref. IfSome (parent_key schema.tables ref) (λ k. k.0 ≢ tree))
      child.references) tables
      → flat_map (λ child. filter_map (work_for schema keys 0 tree olds news child) child.references) tables ≡ []
  none_in [] h = refl
  none_in (t ∷ ts) h = rw (none_of t t.references h.0) (none_in ts h.1)

  pub no_works : NobodyRefersTo schema tree → works schema keys 0 tree olds news ≡ []
  no_works h = none_in schema.tables h
