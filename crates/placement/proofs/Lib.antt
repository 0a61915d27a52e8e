pub mod AskedLemmas
pub mod ConfigLemmas
pub mod ReplicaLemmas
pub mod RingPoints
pub mod RoundLemmas
pub mod SortedLemmas
pub mod VectorCopies
pub mod WorkersMet
