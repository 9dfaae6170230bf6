-- Cases 1 to 14 of document 01, as one theorem: from a fresh image of eight blocks the fourteen calls go as listed.
-- Assumes nothing.
use mathlib.Core.Path.{◌≡◌, refl}
use mathlib.Core.Bool.{true}
use Rattle.plain.specs.Tests.{all}
use Rattle.word.specs.Word.{part, le, bytes_of, blank, all_zero}
use Rattle.word.specs.Write.{over, puts}
use Rattle.ident.specs.Ident.{round_of, unround_of, rounds, unrounds, disguised, undone, id_of, shaped_in}
use Rattle.tariff.specs.Charges.{T, create_charge, destroy_charge, replace_charge, set_expiry_charge}
use Rattle.run.specs.Run.{one, just, picked, all_of, first, visits, rows, each, times}
use Rattle.promise.specs.Layout.{number_right}
use Rattle.promise.specs.Trailer.{n_of, clock_of, right_trailer, trailer_right, trailer_bytes}
use Rattle.promise.specs.Header.{header_of, later_of, header_bytes, used_right, good_header}
use Rattle.promise.specs.Map.{free, spare_zero, good}
use Rattle.promise.specs.Counts.{count_of, owned_by, owners, owned, data_of}
use Rattle.promise.specs.Sound.{sound_image}
use Rattle.promise.specs.Format.{fresh_image}
use Rattle.promise.specs.Refusals.{lowest, bad_now, bad_count}
use Rattle.promise.specs.Lookup.{lookup_damaged, no_such_block, not_owner}
use Rattle.promise.specs.Create.{lowest_free, create_damaged, create_rows, create_report, create_writes, create_image}
use Rattle.promise.specs.Create.{create_answer}
use Rattle.promise.specs.Read.{read_rows, read_report, read_answer, read_buffer}
use Rattle.promise.specs.Destroy.{destroy_damaged, destroy_rows, destroy_report, destroy_writes, destroy_image}
use Rattle.promise.specs.Destroy.{destroy_answer}
use Rattle.promise.specs.Replace.{replace_rows, replace_report, replace_writes, replace_image, replace_answer}
use Rattle.promise.specs.SetExpiry.{set_expiry_rows, set_expiry_report, set_expiry_writes, set_expiry_image}
use Rattle.promise.specs.SetExpiry.{set_expiry_answer}
use Rattle.promise.specs.Keys.{key_at}
use Rattle.promise.specs.GetIds.{ids_visited, ids_named, id_row, get_ids_rows, get_ids_report, get_ids_answer}
use Rattle.promise.specs.GetIds.{get_ids_buffer}
use Rattle.promise.specs.GetCount.{get_count_rows, get_count_report, get_count_answer}
use Rattle.promise.specs.Scavenge.{expired, gone, gone_of, scavenge_damaged, scavenge_rows, scavenge_report, scavenged}
use Rattle.promise.specs.Scavenge.{scavenge_image, scavenge_answer}
use Rattle.promise.specs.Call.{outcome}
use Rattle.fourteen.specs.Line.{AsListed}
use Rattle.fourteen.specs.Table.{prices, fourteen_calls}
use Rattle.fourteen.proofs.Tests.{same_z, same_list, same_key, agrees, as_listed, listed}

tested : as_listed prices (fresh_image 8) fourteen_calls ≡ true
unfolding all part le bytes_of blank all_zero over puts round_of unround_of rounds unrounds disguised undone id_of
    shaped_in T create_charge destroy_charge replace_charge set_expiry_charge one just picked all_of first visits rows
    each times number_right n_of clock_of right_trailer trailer_right trailer_bytes header_of later_of header_bytes
    used_right good_header free spare_zero good count_of owned_by owners owned data_of sound_image fresh_image lowest
    bad_now bad_count lookup_damaged no_such_block not_owner lowest_free create_damaged create_rows create_report
    create_writes create_image create_answer read_rows read_report read_answer read_buffer destroy_damaged destroy_rows
    destroy_report destroy_writes destroy_image destroy_answer replace_rows replace_report replace_writes replace_image
    replace_answer set_expiry_rows set_expiry_report set_expiry_writes set_expiry_image set_expiry_answer key_at
    ids_visited ids_named id_row get_ids_rows get_ids_report get_ids_answer get_ids_buffer get_count_rows
    get_count_report get_count_answer expired gone gone_of scavenge_damaged scavenge_rows scavenge_report scavenged
    scavenge_image scavenge_answer outcome same_z same_list same_key agrees as_listed
tested = refl

pub fourteen : AsListed prices (fresh_image 8) fourteen_calls
fourteen = listed prices (fresh_image 8) fourteen_calls tested
