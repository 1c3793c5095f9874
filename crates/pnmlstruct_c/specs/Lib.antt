-- What a run means whose words, input and buffers are in memory: to be read and believed.
pub mod Memory
