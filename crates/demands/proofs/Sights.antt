-- A run computed once, call by call, and all definitions that a concrete run needs, opened by one name.
-- Assumes nothing.
use Prim.Native.Nat.{ℕ}
use mathlib.Core.Path.{◌≡◌, ap}
use mathlib.Core.Bool.{Bool, false}
use mathlib.Core.List.{List, [], ◌∷◌}
use mathlib.Core.Option.{Option, none}
use lib.ListN.{get_or}
use Rattle.plain.specs.Tests.{all}
use Rattle.word.specs.Word.{part, le, bytes_of, blank, all_zero}
use Rattle.word.specs.Write.{puts, over}
use Rattle.kinds.specs.declared.Report.{Report}
use Rattle.kinds.specs.declared.Report.TheVariants.{BadImage}
use Rattle.ident.specs.Ident.{round_of, unround_of, rounds, unrounds, disguised, undone, id_of, shaped_in}
use Rattle.tariff.specs.Charges.{T, create_charge, destroy_charge, replace_charge, set_expiry_charge}
use Rattle.run.specs.Run.{one, just, picked, all_of, visits, rows, each, times, first}
use Rattle.promise.specs.Call.{Outcome}
use Rattle.promise.specs.Layout.{number_right}
use Rattle.promise.specs.Trailer.{n_of, clock_of, right_trailer, trailer_right, trailer_bytes}
use Rattle.promise.specs.Header.{header_of, later_of, header_bytes, used_right, good_header}
use Rattle.promise.specs.Map.{free, spare_zero, good}
use Rattle.promise.specs.Counts.{count_of, owned_by, owners, data_of, owned}
use Rattle.promise.specs.Sound.{sound_image}
use Rattle.promise.specs.Format.{fresh_image}
use Rattle.promise.specs.Refusals.{applies, lowest, bad_now, bad_count}
use Rattle.promise.specs.Lookup.{lookup_damaged, no_such_block, not_owner}
use Rattle.promise.specs.Create.{lowest_free, create_damaged, create_rows, create_writes}
use Rattle.promise.specs.Read.{read_rows}
use Rattle.promise.specs.Destroy.{destroy_damaged, destroy_rows, destroy_writes}
use Rattle.promise.specs.Replace.{replace_rows, replace_writes}
use Rattle.promise.specs.SetExpiry.{set_expiry_rows, set_expiry_writes}
use Rattle.promise.specs.Keys.{key_at}
use Rattle.promise.specs.GetIds.{ids_visited, ids_named, id_row, get_ids_rows}
use Rattle.promise.specs.GetCount.{get_count_rows}
use Rattle.promise.specs.Scavenge.{gone, gone_of, scavenge_damaged, scavenged, scavenge_rows, expired}
use Rattle.promise.proofs.ScavengeLaws.{clocked}
use Rattle.demands.specs.Service.{Service, Priced}
use Rattle.demands.specs.Demand2.{result, ids_in}
use Rattle.demands.specs.Demand3.{listed}
use Rattle.demands.specs.WrongStores.{if_get_ids, refuses_all, answers_alike, stores_nothing, made_up_count, old_store}
use Rattle.demands.specs.WrongStores.{stops_at_nothing, names_all_at_once, ends_at_n, scribbles, gives_more}
use Rattle.demands.specs.WrongStores.{ends_on_refusal, owner_first, scavenges_equal, half_scavenge, wipes_data}
use Rattle.demands.specs.Stored.{is_id, holds, blocks}
use Rattle.demands.specs.Example.{three}
use Rattle.demands.proofs.Granted.{answers}

-- of a call: whether an id was listed to the client before it, its report and key, and what it gave: the ids that a
-- GetIds call names, the results of another
pub record Sight : Type 0 where
  pub stood : Bool
  pub report : Report
  pub key : Option ℕ
  pub gave : List ℕ

abbrev pub saw : Bool → Report → Option ℕ → List ℕ → Sight
saw stood report key gave = record { stood = stood; report = report; key = key; gave = gave }

unfoldable pub sights : Service → (client id : ℕ) → List Priced → List ℕ → List Sight
sights serve client id [] img = []
sights serve client id (c ∷ cs) img =
    let o : Outcome = serve c.tariff c.call img in
    saw (listed client img id) o.report o.key
    (if_get_ids c.call (λ client key count ids. ids_in (result o 0) o.buffer) o.results)
    ∷ sights serve client id cs o.image

-- sight i of a run
abbrev pub sight : List Sight → ℕ → Sight
sight l i = get_or l i (saw false BadImage none [])

module _ {l m : List Sight} (e : l ≡ m) (i : ℕ) where
  pub stood_at : (sight l i).stood ≡ (sight m i).stood
  stood_at = ap (λ l. (sight l i).stood) e

  pub report_at : (sight l i).report ≡ (sight m i).report
  report_at = ap (λ l. (sight l i).report) e

  pub key_at_lem : (sight l i).key ≡ (sight m i).key
  key_at_lem = ap (λ l. (sight l i).key) e

  pub gave_at : (sight l i).gave ≡ (sight m i).gave
  gave_at = ap (λ l. (sight l i).gave) e

-- all definitions that a concrete run needs
unfoldable pub opened : Unit {0}
unfolding answers sights all part le bytes_of blank all_zero over puts round_of unround_of rounds unrounds disguised
    undone id_of shaped_in T create_charge destroy_charge replace_charge set_expiry_charge one just picked all_of first
    visits rows each times number_right n_of clock_of right_trailer trailer_right trailer_bytes header_of later_of
    header_bytes used_right good_header free spare_zero good count_of owned_by owners owned data_of sound_image
    fresh_image lowest bad_now bad_count applies lookup_damaged no_such_block not_owner lowest_free create_damaged
    create_rows create_writes read_rows destroy_damaged destroy_rows destroy_writes replace_rows replace_writes
    set_expiry_rows set_expiry_writes key_at ids_visited ids_named id_row get_ids_rows get_count_rows expired gone
    gone_of scavenge_damaged scavenge_rows scavenged is_id holds blocks ids_in three refuses_all answers_alike
    stores_nothing made_up_count old_store stops_at_nothing names_all_at_once ends_at_n scribbles gives_more
    ends_on_refusal owner_first scavenges_equal half_scavenge wipes_data clocked
opened = tt
