use Rattle.std.proofs.Common.{◌≡◌, ◌++◌, map, take, string_bytes}
use Rattle.txn_audit_fits.specs.Telling.{shown}
use Rattle.txn_audit_fits.proofs.difference.put_shown.Given as goal

abbrev pub invariant-loop-octet : goal.invariant-loop-octet
invariant-loop-octet l = string_bytes l.text ≡ string_bytes l.fn.text ++ map shown (take l.octet-index l.octets)
