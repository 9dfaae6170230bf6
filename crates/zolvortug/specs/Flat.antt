-- What C and Rust are given: each answer laid flat, with the report as its number.
use Rattle.kinds.specs.Report.{number_of}
use Rattle.kinds.specs.declared.CreateAnswer.{CreateAnswer}
use Rattle.kinds.specs.declared.ReadAnswer.{ReadAnswer}
use Rattle.kinds.specs.declared.StatusAnswer.{StatusAnswer}
use Rattle.kinds.specs.declared.DestroyAnswer.{DestroyAnswer}
use Rattle.kinds.specs.declared.ReplaceAnswer.{ReplaceAnswer}
use Rattle.kinds.specs.declared.SetExpiryAnswer.{SetExpiryAnswer}
use Rattle.kinds.specs.declared.GetIdsAnswer.{GetIdsAnswer}
use Rattle.kinds.specs.declared.GetCountAnswer.{GetCountAnswer}
use Rattle.kinds.specs.declared.ScavengeAnswer.{ScavengeAnswer}
use Rattle.kinds.specs.declared.ProfileAnswer.{ProfileAnswer}
use Rattle.kinds.specs.declared.Receipt.{Receipt}
use Rattle.kinds.specs.declared.Walk.{Walk}
use Rattle.zolvortug.specs.declared.single.Created.{Created}
use Rattle.zolvortug.specs.declared.single.Done.{Done}
use Rattle.zolvortug.specs.declared.single.Told.{Told}
use Rattle.zolvortug.specs.declared.single.Counted.{Counted}
use Rattle.zolvortug.specs.declared.keyed.Listed.{Listed}
use Rattle.zolvortug.specs.declared.keyed.Scavenged.{Scavenged}
use Rattle.zolvortug.specs.declared.keyed.Stepped.{Stepped}

-- a receipt, which is all that Read, Destroy and SetExpiry give
abbrev pub done : Receipt → Done
done r = record { charge = r.charge; report = number_of r.report }

abbrev pub created : CreateAnswer → Created
created a = record { id = a.id; charge = a.receipt.charge; report = number_of a.receipt.report }

abbrev pub read : ReadAnswer → Done
read a = done a.receipt

abbrev pub status : StatusAnswer → Told
status a = record {
  created = a.created;
  expires = a.expires;
  charge = a.receipt.charge;
  owner = a.owner;
  report = number_of a.receipt.report;
}

abbrev pub destroyed : DestroyAnswer → Done
destroyed a = done a.receipt

abbrev pub replaced : ReplaceAnswer → Created
replaced a = record { id = a.id; charge = a.receipt.charge; report = number_of a.receipt.report }

abbrev pub expiry_set : SetExpiryAnswer → Done
expiry_set a = done a.receipt

abbrev pub listed : GetIdsAnswer → Listed
listed a = record {
  charge = a.receipt.charge;
  key = a.key;
  entries = a.entries;
  report = number_of a.receipt.report;
}

abbrev pub counted : GetCountAnswer → Counted
counted a = record { charge = a.receipt.charge; count = a.count; report = number_of a.receipt.report }

abbrev pub scavenged : ScavengeAnswer → Scavenged
scavenged a = record {
  charge = a.receipt.charge;
  key = a.key;
  count = a.count;
  report = number_of a.receipt.report;
}

abbrev pub profiled : ProfileAnswer → Listed
profiled a = record {
  charge = a.receipt.charge;
  key = a.key;
  entries = a.entries;
  report = number_of a.receipt.report;
}

-- a step: the record after it, and its answer
abbrev pub stepped : GetIdsAnswer → Walk → Stepped
stepped a w = record {
  walk = w;
  charge = a.receipt.charge;
  key = a.key;
  entries = a.entries;
  report = number_of a.receipt.report;
}
