-- What each kind of box keeps, part by part.
use Rattle.std.specs.Prelude.{true, false}
use Rattle.mail_contract.specs.Parts.{Parts}

abbrev pub plain_mail : Parts
plain_mail = record {
  shows = false;
  bounded = false;
  roomy = false;
  finite = true;
  advances = false;
  freed = true;
  complete = false;
  exact = true;
  turns = true;
  sure = false;
}

abbrev pub queue : Parts
queue = record {
  shows = false;
  bounded = false;
  roomy = false;
  finite = false;
  advances = false;
  freed = true;
  complete = false;
  exact = false;
  turns = false;
  sure = true;
}

abbrev pub rings : Parts
rings = record {
  shows = true;
  bounded = true;
  roomy = true;
  finite = true;
  advances = true;
  freed = true;
  complete = true;
  exact = true;
  turns = true;
  sure = false;
}

-- a scramble over rings: a held message may come later, and the draw says whose comes
abbrev pub scramble : Parts
scramble = record rings { bounded = false; turns = false }
