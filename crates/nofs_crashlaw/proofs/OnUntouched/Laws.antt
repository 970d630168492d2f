-- The laws of what a step leaves as it was.
use Rattle.nofs_ptrs.specs.Paths.{path_of}
use Rattle.nofs_crashlaw.specs.Untouched.Laws.{LawUntouched, LawGrown}
use Rattle.nofs_crashlaw.proofs.OnUntouched.Inodes.{same-file}
use Rattle.nofs_crashlaw.proofs.OnFiles.Growth.{on-path, off-path, value-on, value-off}
use Rattle.std.proofs.Common.{refl}

pub law-untouched : LawUntouched
law-untouched s touched X Y j w t a old live = same-file s touched X Y w j t a old live

pub law-grown : LawGrown
law-grown s X Y i k at w owned same old range r = record {
  on = on-path s X Y i w owned same old (path_of k) at r.placed r.not_null r.area r.tag r.record_stays r.beside r.apart;
  off = off-path s X Y i w owned same old
      (path_of k) at r.placed r.not_null r.area r.tag r.record_stays r.beside r.apart;
  here = value-on s X Y i w owned same old
      (path_of k) at r.placed r.not_null r.area r.tag r.record_stays r.beside r.apart k refl;
  beside = λ l lt ne. value-off s X Y i w owned same old
      (path_of k) at r.placed r.not_null r.area r.tag r.record_stays r.beside r.apart k l refl range lt ne;
}
