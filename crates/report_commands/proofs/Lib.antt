mod HeadLemmas
mod Shown
mod Works
