-- The wrong services do not meet the demands.
-- Assumes nothing.
use Rattle.demands.specs.WrongStores.{Excluded}
use Rattle.demands.proofs.WrongStores.{refuses_all_well, refuses_all_walks, refuses_all_lem, answers_alike_lem}
use Rattle.demands.proofs.WrongStores.{stores_nothing_lem, made_up_count_lem, ends_at_n_lem, scribbles_on}
use Rattle.demands.proofs.WrongStores.{gives_more_lem}
use Rattle.demands.proofs.WrongStores.{ends_on_refusal_lem, owner_first_lem, half_scavenge_lem, scavenges_equal_lem}
use Rattle.demands.proofs.WrongStores.{wipes_data_lem}
use Rattle.demands.proofs.WrongWalks.{stops_at_nothing_lem, names_all_at_once_lem, visits-all}
use Rattle.demands.proofs.Example.{old_store_lem}

pub excluded : Excluded
excluded =
    record {
      refuses_all_well = refuses_all_well;
      refuses_all_walks = refuses_all_walks;
      refuses_all_lem = refuses_all_lem;
      answers_alike_lem = answers_alike_lem;
      stores_nothing_lem = stores_nothing_lem;
      made_up_count_lem = made_up_count_lem;
      names_all_at_once_lem = names_all_at_once_lem;
      visits-all = visits-all;
      ends_at_n_lem = ends_at_n_lem;
      scribbles_on = scribbles_on;
      gives_more_lem = gives_more_lem;
      old_store_lem = old_store_lem;
      stops_at_nothing_lem = stops_at_nothing_lem;
      ends_on_refusal_lem = ends_on_refusal_lem;
      owner_first_lem = owner_first_lem;
      scavenges_equal_lem = scavenges_equal_lem;
      half_scavenge_lem = half_scavenge_lem;
      wipes_data_lem = wipes_data_lem;
    }
